-- A schema declaration declares what is kept of it declares.
use Rattle.std.specs.Prelude.{◌≡◌, ℕ, ◌<◌, Bool, List, [], ◌∷◌, ◌++◌, map, length, Contains, refl}
use Rattle.std.specs.List.{AllZip, IsDistinct, AllByRecursion as Each}
use Rattle.std.specs.Str.{bytes_eq}
use Rattle.std.proofs.Common.{arith, ap, sym, ◌∙◌, subst}
use Rattle.std.proofs.lemmas.List.{length-map}
use Rattle.std.proofs.lemmas.Slice.Zip.{AllZip-long}
use Rattle.p21_spec_basics.proofs.Members.{Each-member, Each-of_members, Each-weaker, Contains-first, Contains-flat_map, AllZip-member}
use Rattle.p21_spec_schema.specs.EntityDeclaration as written
use Rattle.p21_spec_schema.specs.EntityDeclaration.{EntityDeclaration, ExplicitAttributes, IsEntityDeclaration, AreExplicit}
use Rattle.p21_spec_schema.specs.TypeDeclaration.{TypeDeclaration}
use Rattle.p21_spec_schema.specs.SchemaDeclaration as declaration
use Rattle.p21_spec_schema.specs.SchemaDeclaration.{Declaration, SchemaDeclaration, IsDeclaration, IsSchemaDeclaration, entities_of, types_of}
use Rattle.p21_spec_schema.specs.WrittenType.{WrittenType}
use Rattle.p21_spec_schema.specs.Schema.{Schema, Entity}
use Rattle.p21_spec_schema.specs.Declared.{DeclaresSchema, Declares}
use Rattle.p21_spec_schema.specs.DeclaredEntity.{DeclaresEntity, DeclaresAttribute, DeclaresRedeclared, own_names, redeclared_names, own_explicit, redeclared_explicit}
use Rattle.p21_spec_schema.specs.DeclaredOneOf.{DeclaresOneOf, all_one_of_names}
use Rattle.p21_spec_schema.specs.DefinedType.{DeclaresType}
use Rattle.p21_express_syntax.specs.Digesting.{entity_digest, defined_type_digest, schema_digest}
use Rattle.p21_express_syntax.specs.ReadDeclarations.{IsTextOf}
use Rattle.p21_express_syntax.specs.Within.{HasNumbers, AreAttributesWithin, IsEntityWithin, IsDefinedWithin, IsSchemaWithin}
use Rattle.p21_express_outline.specs.DeclaredBy.{DeclaredBy}
use Rattle.p21_express_outline.specs.Outline.{Named, named, digest_names, IsNamed, EntityOutline, TypeOutline, DigestOneOfIs}
use Rattle.p21_express_outline.specs.Redeclarations.{RedeclarationsAre}
use Rattle.p21_express_outline.proofs.EntityDigests.{IsSmall, entity-digested, entity-written, redeclarations-digested, all_one_of-digested}
use Rattle.p21_express_outline.proofs.KindDigests.{defined-digested, defined-written, defined-within, declared-no_select}
use Rattle.p21_express_outline.proofs.TypeDigests.{type-numbers}
use Rattle.p21_express_outline.proofs.NameLemmas.{HasNames, entity-at, entity-of}
use Rattle.p21_express_outline.proofs.Zips.{AllZip-weaker, AllZip-mapped, AllZip-unmapped, AllZip-same, numbered-weaker, numbered-weaker_each, numbered-mapped, numbered-unmapped, numbered, unnumbered, numbered-both, map-twice}

-- the names of a declared schema are those of its declaration
names-digested : (tree : SchemaDeclaration) (s : Schema) → DeclaresSchema tree s → HasNames s (digest_names (schema_digest tree))
names-digested tree s declares = record {
  entities_are =
      let ds = entities_of tree.declarations in
      AllZip-same (λ x found. found.name ≡ x.name) (λ x. x.name) (λ x. x.name) (λ x y same. same) ds s.entities
      (unnumbered (λ x found. found.name ≡ x.name) 0 ds s.entities
      (numbered-weaker (DeclaresEntity s ds) (λ k x found. found.name ≡ x.name) 0 ds s.entities (λ k x y is. is.name_is)
      declares.entities_are))
      ∙ sym (map-twice entity_digest (λ x. x.name) ds);
  types_are =
      AllZip-same (DeclaresType s) (λ x. x.name) (λ x. x.name) (λ x y is. is.name_is) (types_of tree.declarations) s.types
      declares.types_are
      ∙ sym (map-twice defined_type_digest (λ x. x.name) (types_of tree.declarations));
}

pub declares-digested : (tree : SchemaDeclaration) (s : Schema) → DeclaresSchema tree s → DeclaredBy (schema_digest tree) s
declares-digested tree s declares = record {
  outline = record {
    name_is = declares.name_is;
    entities_are = AllZip-mapped (EntityOutline n) entity_digest ds s.entities
        (unnumbered (λ x found. EntityOutline n (entity_digest x) found) 0 ds s.entities
        (numbered-weaker (DeclaresEntity s ds) (λ k x found. EntityOutline n (entity_digest x) found) 0 ds s.entities
        (λ k x y is. entity-digested s n has ds k x y is) declares.entities_are));
    types_are = AllZip-mapped (TypeOutline n) defined_type_digest ts s.types
        (AllZip-weaker (DeclaresType s) (λ x found. TypeOutline n (defined_type_digest x) found) ts s.types
        (λ x y among among_ is. defined-digested s n has x y is) declares.types_are);
    one_of_are =
        let P : List (List (List ℕ)) → Type 0 = λ lists. AllZip (DigestOneOfIs n) lists s.one_of_lists in
        subst P (sym (all_one_of-digested ds)) (AllZip-weaker (DeclaresOneOf s) (DigestOneOfIs n) (all_one_of_names ds) s.one_of_lists
        (λ names listed among among_ is. (
          AllZip-weaker _ (IsNamed n.entities) listed names
              (λ e name at at_ named. entity-at s n has e name named) is.0,
          is.1,
        )) declares.one_of_are);
    names_distinct = let P : List (List ℕ) → Type 0 = IsDistinct bytes_eq in
        subst P (ap (λ ns. ns ++ (named s).types) has.entities_are ∙ ap (λ ns. n.entities ++ ns) has.types_are) declares.names_distinct;
  };
  redeclared = numbered-mapped (RedeclarationsAre s n (map entity_digest ds)) entity_digest 0 ds s.entities
      (numbered-weaker (DeclaresEntity s ds) (λ k x found. RedeclarationsAre s n (map entity_digest ds) k (entity_digest x) found) 0 ds
      s.entities (λ k x y is. redeclarations-digested s n has ds k x y is) declares.entities_are);
  no_select = declared-no_select s ts declares.types_are;
  supertypes_end = declares.supertypes_end;
  renaming_ends = declares.renaming_ends;
  selects_end = declares.selects_end;
}
  where
    ds : List EntityDeclaration
    ds = entities_of tree.declarations

    ts : List TypeDeclaration
    ts = types_of tree.declarations

    n : Named
    n = digest_names (schema_digest tree)

    has : HasNames s n
    has = names-digested tree s declares

-- ---- the limits

entities-in_grammar : (ds : List Declaration) → Each IsDeclaration ds → Each IsEntityDeclaration (entities_of ds)
entities-in_grammar [] each = tt
entities-in_grammar (declaration.entity x ∷ ds) each = (each.0, entities-in_grammar ds each.1)
entities-in_grammar (declaration.defined x ∷ ds) each = entities-in_grammar ds each.1
entities-in_grammar (declaration.read_over x ∷ ds) each = entities-in_grammar ds each.1

-- an attribute has a name, new or redeclared, and so its type is one of the schema
attribute-numbers : (s : Schema) (ds : List EntityDeclaration) (e : ℕ) (x : EntityDeclaration) (found : Entity)
    → DeclaresEntity s ds e x found → (d : ExplicitAttributes) → Contains x.explicit d → 0 < length d.names → HasNumbers d.type
attribute-numbers s ds e x found is d among some = by d.names refl some
  where
    by : (names : List written.AttributeName) → d.names ≡ names → 0 < length names → HasNumbers d.type
    by [] same some = absurd (omega (arith, some))
    by (written.own name ∷ names) same some =
        let item : List ℕ × Bool × WrittenType = (name, d.optional, d.type) in
        let P : List written.AttributeName → Type 0 = λ ns. Contains (map (λ z. (z, d.optional, d.type)) (own_names ns)) item in
        let there : Contains (own_explicit x.explicit) item =
        Contains-flat_map (λ y. map (λ z. (z, y.optional, y.type)) (own_names y.names)) x.explicit d item among
        (subst P (sym same) (Contains-first item (map (λ z. (z, d.optional, d.type)) (own_names names)))) in
        let (a, at, a_is) = AllZip-member (DeclaresAttribute s) (own_explicit x.explicit) found.attributes item is.attributes_are there in
        type-numbers s d.type a.type a_is.2
    by (written.redeclared sup name ∷ names) same some =
        let item : (List ℕ × List ℕ) × Bool × WrittenType = ((sup, name), d.optional, d.type) in
        let P : List written.AttributeName → Type 0 = λ ns. Contains (map (λ z. (z, d.optional, d.type)) (redeclared_names ns)) item in
        let there : Contains (redeclared_explicit x.explicit) item =
        Contains-flat_map (λ y. map (λ z. (z, y.optional, y.type)) (redeclared_names y.names)) x.explicit d item among
        (subst P (sym same) (Contains-first item (map (λ z. (z, d.optional, d.type)) (redeclared_names names)))) in
        let (r, at, r_is) = AllZip-member (DeclaresRedeclared s e) (redeclared_explicit x.explicit) found.redeclared item is.redeclared_are
        there in
        type-numbers s d.type r.type r_is.2

abbrev SomeEntityIs : Schema → List EntityDeclaration → EntityDeclaration → Entity → Type 0
SomeEntityIs s ds x found = (k : ℕ) × DeclaresEntity s ds k x found

-- what is declared is within the limits
pub declares-within : (tree : SchemaDeclaration) (s : Schema) → IsSchemaDeclaration tree → DeclaresSchema tree s → IsSchemaWithin tree
declares-within tree s is declares = record {
  entities_within = Each-of_members IsEntityWithin ds (λ x among.
      let (found, at, (k, entity_is)) = AllZip-member (SomeEntityIs s ds) ds s.entities x each among in
      Each-of_members AreAttributesWithin x.explicit (λ d in_x. (
        attribute-numbers s ds k x found entity_is d in_x (Each-member AreExplicit x.explicit d
            (Each-member IsEntityDeclaration ds x (entities-in_grammar tree.declarations is.declarations_are) among).explicit_are in_x).0,
        Each-member IsSmall x.explicit d entity_is.nesting_small in_x,
      )));
  types_within = Each-of_members IsDefinedWithin ts (λ x among.
      let (found, at, defined_is) = AllZip-member (DeclaresType s) ts s.types x declares.types_are among in
      defined-within s x.body found.kind defined_is.kind_is);
  count_within =
      let e : length s.entities ≡ length ds = AllZip-long (SomeEntityIs s ds) ds s.entities each in
      let t : length s.types ≡ length ts = AllZip-long (DeclaresType s) ts s.types declares.types_are in
      omega (arith, e, t, declares.few);
}
  where
    ds : List EntityDeclaration
    ds = entities_of tree.declarations

    ts : List TypeDeclaration
    ts = types_of tree.declarations

    each : AllZip (SomeEntityIs s ds) ds s.entities
    each = unnumbered (SomeEntityIs s ds) 0 ds s.entities
        (numbered-weaker (DeclaresEntity s ds) (λ k x found. SomeEntityIs s ds x found) 0 ds s.entities (λ k x y h. (k, h))
        declares.entities_are)

-- ---- from what is kept

outline-names : (tree : SchemaDeclaration) (s : Schema) → DeclaredBy (schema_digest tree) s → HasNames s (digest_names (schema_digest tree))
outline-names tree s by = record {
  entities_are = AllZip-same (EntityOutline (digest_names (schema_digest tree))) (λ x. x.name) (λ x. x.name) (λ x y is. is.name_is)
      (map entity_digest (entities_of tree.declarations)) s.entities by.outline.entities_are;
  types_are = AllZip-same (TypeOutline (digest_names (schema_digest tree))) (λ x. x.name) (λ x. x.name) (λ x y is. is.name_is)
      (map defined_type_digest (types_of tree.declarations)) s.types by.outline.types_are;
}

pub digest-declares : (tree : SchemaDeclaration) (s : Schema) → IsSchemaWithin tree → DeclaredBy (schema_digest tree) s
    → DeclaresSchema tree s
digest-declares tree s within by = record {
  name_is = by.outline.name_is;
  entities_are = numbered-weaker_each IsEntityWithin
      (λ k x found. EntityOutline n (entity_digest x) found × RedeclarationsAre s n (map entity_digest ds) k (entity_digest x) found)
      (DeclaresEntity s ds) 0 ds s.entities within.entities_within
      (λ k x found limits is. entity-written s n has ds k x found (Each-weaker AreAttributesWithin IsSmall (λ d h. h.1) x.explicit limits)
      (Each-weaker AreAttributesWithin (λ d. HasNumbers d.type) (λ d h. h.0) x.explicit limits) is.0 is.1)
      (numbered-both (λ k x found. EntityOutline n (entity_digest x) found)
      (λ k x found. RedeclarationsAre s n (map entity_digest ds) k (entity_digest x) found) 0 ds s.entities
      (numbered (λ x found. EntityOutline n (entity_digest x) found) 0 ds s.entities
      (AllZip-unmapped (EntityOutline n) entity_digest ds s.entities by.outline.entities_are))
      (numbered-unmapped (RedeclarationsAre s n (map entity_digest ds)) entity_digest 0 ds s.entities by.redeclared));
  types_are = AllZip-weaker (λ x found. TypeOutline n (defined_type_digest x) found) (DeclaresType s) ts s.types
      (λ x found among among_ is. defined-written s n has by.no_select x found (Each-member IsDefinedWithin ts x within.types_within among)
      among_ is)
      (AllZip-unmapped (TypeOutline n) defined_type_digest ts s.types by.outline.types_are);
  one_of_are =
      let P : List (List (List ℕ)) → Type 0 = λ lists. AllZip (DigestOneOfIs n) lists s.one_of_lists in
      AllZip-weaker (DigestOneOfIs n) (DeclaresOneOf s) (all_one_of_names ds) s.one_of_lists
      (λ names listed among among_ is. (
        AllZip-weaker (IsNamed n.entities) _ listed names
            (λ e name at at_ h. entity-of s n has e name h) is.0,
        is.1,
      ))
      (subst P (all_one_of-digested ds) by.outline.one_of_are);
  few =
      let e : length s.entities ≡ length (map entity_digest ds) =
      AllZip-long (EntityOutline n) (map entity_digest ds) s.entities by.outline.entities_are in
      let t : length s.types ≡ length (map defined_type_digest ts) =
      AllZip-long (TypeOutline n) (map defined_type_digest ts) s.types by.outline.types_are in
      omega (arith, e, t, length-map ds entity_digest, length-map ts defined_type_digest, within.count_within);
  names_distinct = let P : List (List ℕ) → Type 0 = IsDistinct bytes_eq in
      subst P (sym (ap (λ ns. ns ++ (named s).types) has.entities_are ∙ ap (λ ns. n.entities ++ ns) has.types_are))
      by.outline.names_distinct;
  supertypes_end = by.supertypes_end;
  renaming_ends = by.renaming_ends;
  selects_end = by.selects_end;
}
  where
    ds : List EntityDeclaration
    ds = entities_of tree.declarations

    ts : List TypeDeclaration
    ts = types_of tree.declarations

    n : Named
    n = digest_names (schema_digest tree)

    has : HasNames s n
    has = outline-names tree s by

-- ---- texts

pub declared-text : (text : List ℕ) (s : Schema) → Declares text s
    → (tree : SchemaDeclaration) × IsTextOf tree text × DeclaredBy (schema_digest tree) s
declared-text text s declares = (
  declares.tree,
  record {
    laid = declares.laid;
    is_schema = declares.in_grammar;
    is_within =
        declares-within declares.tree s declares.in_grammar declares.declares;
    is_short = declares.short;
  },
  declares-digested declares.tree s declares.declares,
)

pub text-declared : (text : List ℕ) (tree : SchemaDeclaration) (s : Schema) → IsTextOf tree text → DeclaredBy (schema_digest tree) s
    → Declares text s
text-declared text tree s is by = record {
  tree = tree;
  short = is.is_short;
  laid = is.laid;
  in_grammar = is.is_schema;
  declares =
      digest-declares tree s is.is_within by;
}
