-- An outline holds together once no chain of it comes back.
use Rattle.std.specs.Prelude.{◌≡◌, ℕ, ◌<◌, ◌^◌, List, [], ◌∷◌, ◌++◌, length, map, Option, Some, None, slice_get, Contains, refl}
use Rattle.std.specs.List.{IsDistinct, enumerate_from, AllByRecursion as Each}
use Rattle.std.specs.Str.{bytes_eq}
use Rattle.std.proofs.Common.{arith, ap, sym, ◌∙◌, subst, inl, inr}
use Rattle.std.proofs.lemmas.List.{length-map}
use Rattle.std.proofs.lemmas.Option.{slice_get_within}
use Rattle.std.proofs.lemmas.Slice.Zip.{AllZip-long}
use Rattle.p21_spec_basics.proofs.Members.{Contains-none, Contains-found, Contains-unmapped, Each-of_members, Each-member, AllZip-member, AllZip-second_member}
use Rattle.p21_spec_schema.specs.Schema as schema
use Rattle.p21_spec_schema.specs.Schema.{Schema, TypeUse, Member, entity_member, type_member, Kind, Redeclared, Place, Entity, Defined}
use Rattle.p21_spec_schema.specs.Declared.{HasNoCircle, HasSupertype, Renames, HasSelect}
use Rattle.p21_spec_schema.specs.SchemaDeclaration.{SchemaDeclaration, entities_of}
use Rattle.p21_spec_schema.specs.Redeclaration.{RedeclaresPlace}
use Rattle.p21_spec_schema.specs.WellFormed.{RedeclaresOnce}
use Rattle.p21_spec_schema.proofs.DeclaredSchemas.{distinct_names-entities, distinct_names-types, declared-redeclares_once}
use Rattle.p21_express.specs.ReadSchema.{AreOfText, IsBareSchema}
use Rattle.p21_express.proofs.Counted.{few-attributes}
use Rattle.p21_express.proofs.Outlines.{outline-few}
use Rattle.p21_express_outline.specs.Chains.{AreMembers}
use Rattle.p21_express.proofs.PlaceLemmas.{named-within}
use Rattle.p21_express_outline.specs.Bare.{bare, bare_entity}
use Rattle.p21_express_outline.specs.DeclaredBy.{DeclaredBy}
use Rattle.p21_express_outline.specs.Redeclarations.{DigestRedeclaredIs, DigestDerivedAre, no_more, a_place, no_place, RedeclarationsAre}
use Rattle.p21_express_outline.specs.Outline.{Named, digest_names, IsNamed, SimpleIs, DigestTypeIs, DigestKindIs, MemberIs, DigestAttributeIs, DigestOneOfIs, EntityOutline, TypeOutline, IsOutline, digest_own_explicit, digest_one_of_lists, digest_redeclared_explicit, digest_redeclared_names, aggregates_of}
use Rattle.p21_express_outline.proofs.SchemaDigests.{digest-declares}
use Rattle.p21_express_outline.proofs.Zips.{AllZip-same}
use Rattle.p21_express_syntax.specs.Digest.{SchemaDigest, EntityDigest, TypeDigest, BodyDigest, enumeration, select, underlying}
use Rattle.p21_express_syntax.specs.Digesting.{schema_digest, entity_digest}
use Rattle.p21_express_syntax.specs.ReadDeclarations.{IsTextOf}
use Rattle.p21_express_syntax.specs.declared.types.Aggregate.{Aggregate}
use Rattle.p21_express_syntax.specs.declared.types.Aggregate.TheVariants as aggregate
use Rattle.p21_express_syntax.specs.declared.types.SimpleType.{SimpleType}
use Rattle.p21_express_syntax.specs.declared.types.SimpleType.TheVariants as simple
use Rattle.p21_express_graph.specs.Resolved.{IsEntity, IsType, IsPlace, IsTypeUse, IsMember, IsKind, IsAttribute, IsRedeclared, IsResolved, HoldsTogether}

module _ (k : SchemaDigest) (s : Schema) (outline : IsOutline k s) where
  abbrev n : Named
  n = digest_names k

  entity_is : (e : ℕ) (name : List ℕ) → IsNamed n.entities e name → IsEntity s e
  entity_is e name named =
      let below : e < length n.entities = slice_get_within n.entities e name named in
      let kept : length n.entities ≡ length k.entities = length-map k.entities (λ x. x.name) in
      let found : length s.entities ≡ length k.entities = AllZip-long (EntityOutline n) k.entities s.entities outline.entities_are in
      omega (arith, below, kept, found)

  type_is : (t : ℕ) (name : List ℕ) → IsNamed n.types t name → IsType s t
  type_is t name named =
      let below : t < length n.types = slice_get_within n.types t name named in
      let kept : length n.types ≡ length k.types = length-map k.types (λ x. x.name) in
      let found : length s.types ≡ length k.types = AllZip-long (TypeOutline n) k.types s.types outline.types_are in
      omega (arith, below, kept, found)

  -- ---- types

  simple_is : (kept : SimpleType) (type : TypeUse) → SimpleIs n kept type → IsTypeUse s type
  simple_is simple.Integer type is = subst (IsTypeUse s) (sym is) tt
  simple_is simple.Real type is = subst (IsTypeUse s) (sym is) tt
  simple_is simple.Number type is = subst (IsTypeUse s) (sym is) tt
  simple_is simple.Boolean type is = subst (IsTypeUse s) (sym is) tt
  simple_is simple.Logical type is = subst (IsTypeUse s) (sym is) tt
  simple_is (simple.String width) type is = subst (IsTypeUse s) (sym is) tt
  simple_is (simple.Binary width) type is = subst (IsTypeUse s) (sym is) tt
  simple_is (simple.Named name) type (inl (e, named, is)) = subst (IsTypeUse s) (sym is) (entity_is e name named)
  simple_is (simple.Named name) type (inr (t, named, is)) = subst (IsTypeUse s) (sym is) (type_is t name named)

  around_is : (aggregates : List Aggregate) (element : TypeUse) → IsTypeUse s element → IsTypeUse s (aggregates_of aggregates element)
  around_is [] element is = is
  around_is (aggregate.Array low high optional unique ∷ aggregates) element is = around_is aggregates element is
  around_is (aggregate.List range unique ∷ aggregates) element is = around_is aggregates element is
  around_is (aggregate.Set range ∷ aggregates) element is = around_is aggregates element is
  around_is (aggregate.Bag range ∷ aggregates) element is = around_is aggregates element is

  type_use_is : (kept : TypeDigest) (type : TypeUse) → DigestTypeIs n kept type → IsTypeUse s type
  type_use_is kept type (element, is, same) = subst (IsTypeUse s) (sym same)
      (around_is kept.aggregates element (simple_is kept.element element is))

  member_is : (m : Member) (name : List ℕ) → MemberIs n m name → IsMember s m
  member_is (entity_member e) name named = entity_is e name named
  member_is (type_member t) name named = type_is t name named

  kind_is : (body : BodyDigest) (kind : Kind) → DigestKindIs n body kind → IsKind s kind
  kind_is (underlying kept) kind (type, (element, is, same), alone, kind_same) =
      subst (IsKind s) (sym kind_same) (subst (IsTypeUse s) (sym same)
      (around_is kept.aggregates element (simple_is kept.element element is)))
  kind_is (enumeration names) kind is = subst (IsKind s) (sym is.0) tt
  kind_is (select names) kind (members, are, distinct, same) =
      subst (IsKind s) (sym same) (Each-of_members (IsMember s) members
      (λ m among. let (name, _, is) = AllZip-member (MemberIs n) members names m are among in member_is m name is))

  types_are : Each (λ (x : Defined). IsKind s x.kind) s.types
  types_are = Each-of_members (λ (x : Defined). IsKind s x.kind) s.types
      (λ x among. let (d, _, is) = AllZip-second_member (TypeOutline n) k.types s.types x outline.types_are among in
      kind_is d.body x.kind is.kind_is)

  -- ---- ONEOF lists

  one_of_are : Each (Each (IsEntity s)) s.one_of_lists
  one_of_are = Each-of_members (Each (IsEntity s)) s.one_of_lists (λ listed among.
      let (names, _, is) = AllZip-second_member (DigestOneOfIs n) (digest_one_of_lists k.entities) s.one_of_lists listed outline.one_of_are
      among in
      Each-of_members (IsEntity s) listed (λ e among_. let (name, _, named) =
      AllZip-member (IsNamed n.entities) listed names e is.0 among_ in entity_is e name named))

  -- ---- entities

  bare_is : bare s ≡ s → (x : Entity) → Contains s.entities x → (x.redeclared ≡ []) × (x.derived ≡ [])
  bare_is is_bare x among =
      let P : Schema → Type 0 = λ t. Contains t.entities x in
      let (y, _, same) = Contains-unmapped bare_entity s.entities x (subst P (sym is_bare) among) in
      (ap (λ z. z.redeclared) (sym same), ap (λ z. z.derived) (sym same))

  -- in a bare schema nothing that is redeclared is wrong
  bare_holds : bare s ≡ s → (x : Entity) → Contains s.entities x → Each (IsRedeclared s) x.redeclared × Each (IsPlace s) x.derived
  bare_holds is_bare x among =
      let (none, none_derived) = bare_is is_bare x among in
      let P : List Redeclared → Type 0 = Each (IsRedeclared s) in
      let Q : List Place → Type 0 = Each (IsPlace s) in
      (subst P (sym none) tt, subst Q (sym none_derived) tt)

  entities_are : ((x : Entity) → Contains s.entities x → Each (IsRedeclared s) x.redeclared × Each (IsPlace s) x.derived)
      → ((d : EntityDigest) → Contains k.entities d → length (digest_own_explicit d.explicit) < 2 ^ 32) → Each (IsResolved s) s.entities
  entities_are redeclared few = Each-of_members (IsResolved s) s.entities (λ x among.
      let (d, d_among, is) = AllZip-second_member (EntityOutline n) k.entities s.entities x outline.entities_are among in
      let long : length x.attributes ≡ length (digest_own_explicit d.explicit) =
      AllZip-long (DigestAttributeIs n) (digest_own_explicit d.explicit) x.attributes is.attributes_are in
      let small : length (digest_own_explicit d.explicit) < 2 ^ 32 = few d d_among in
      record {
        few = let P : ℕ → Type 0 = λ m. m < 2 ^ 32 in subst P (sym long) small;
        supertypes_are = Each-of_members (IsEntity s) x.supertypes
            (λ e e_among. let (name, _, named) = AllZip-member (IsNamed n.entities) x.supertypes d.supertypes e is.supertypes_are e_among in
            entity_is e name named);
        attributes_are = Each-of_members (IsAttribute s) x.attributes
            (λ a a_among. let (kept, _, found) = AllZip-second_member (DigestAttributeIs n) (digest_own_explicit d.explicit) x.attributes a
            is.attributes_are a_among in type_use_is kept.2 a.type found.2);
        redeclared_are = (redeclared x among).0;
        derived_are = (redeclared x among).1;
      })

  redeclares_once : bare s ≡ s → RedeclaresOnce s
  redeclares_once is_bare e r q (x, at, among) other same =
      let P : List Redeclared → Type 0 = λ rs. Contains rs r in
      absurd (Contains-none r (subst P (bare_is is_bare x (Contains-found s.entities e x at)).0 among))

  names_are : (map (λ x. x.name) s.entities ≡ n.entities) × (map (λ x. x.name) s.types ≡ n.types)
  names_are = (
    AllZip-same (EntityOutline n) (λ x. x.name) (λ x. x.name) (λ x y is. is.name_is) k.entities s.entities outline.entities_are,
    AllZip-same (TypeOutline n) (λ x. x.name) (λ x. x.name) (λ x y is. is.name_is) k.types s.types outline.types_are,
  )

  distinct : IsDistinct bytes_eq (map (λ x. x.name) s.entities ++ map (λ x. x.name) s.types)
  distinct = let P : List (List ℕ) → Type 0 = IsDistinct bytes_eq in
      subst P (sym (ap (λ ns. ns ++ map (λ x. x.name) s.types) names_are.0 ∙ ap (λ ns. n.entities ++ ns) names_are.1))
      outline.names_distinct

-- the types among the members of a select are of the schema
pub outline-members : (k : SchemaDigest) (s : Schema) → IsOutline k s → AreMembers s
outline-members k s outline t u members is among = by (slice_get s.types t) refl is
  where
    by : (o : Option Defined) → slice_get s.types t ≡ o
        → ◌≡◌ {A = Option Kind} (elim o [ Some x ↦ Some x.kind | None ↦ None ]) (Some (schema.choice members)) → u < length s.types
    by None at same = cc
    by (Some x) at same =
        let kind_same : x.kind ≡ schema.choice members = cc in
        let holds : IsKind s x.kind = Each-member (λ (y : Defined). IsKind s y.kind) s.types x (types_are k s outline)
        (Contains-found s.types t x at) in
        Each-member (IsMember s) members (type_member u) (subst (IsKind s) kind_same holds) among

-- ---- what is redeclared

redeclares-within : (s : Schema) (e : ℕ) (supertype name : List ℕ) (place : Place) → RedeclaresPlace s e supertype name place
    → IsPlace s place
redeclares-within s e supertype name place (sup, proper, inl own) = named-within s place name own.1
redeclares-within s e supertype name place (sup, proper, inr is) = named-within s place name is.1.1

derived-within : (s : Schema) (entities : List EntityDigest) (e : ℕ) (names : List (List ℕ × List ℕ)) (found : List Place)
    → DigestDerivedAre s entities e names found → Each (IsPlace s) found
derived-within s entities e _ _ no_more = tt
derived-within s entities e _ _ (a_place supertype name place names found is rest) =
    (redeclares-within s e supertype name place is, derived-within s entities e names found rest)
derived-within s entities e _ _ (no_place supertype name sup names found is none derives rest) =
    derived-within s entities e names found rest

redeclared-within : (k : SchemaDigest) (s : Schema) → DeclaredBy k s → (x : Entity) → Contains s.entities x
    → Each (IsRedeclared s) x.redeclared × Each (IsPlace s) x.derived
redeclared-within k s by x among =
    let (own, _, are) = AllZip-second_member (λ p found. RedeclarationsAre s (digest_names k) k.entities p.0 p.1 found)
    (enumerate_from 0 k.entities) s.entities x by.redeclared among in (
      Each-of_members (IsRedeclared s) x.redeclared (λ r r_among.
          let (kept, _, is) = AllZip-second_member (DigestRedeclaredIs s (digest_names k) own.0) (digest_redeclared_explicit own.1.explicit)
          x.redeclared r are.redeclared_are r_among in
          (redeclares-within s own.0 kept.0.0 kept.0.1 r.place is.0, type_use_is k s by.outline kept.2 r.type is.2)),
      derived-within s k.entities own.0 (digest_redeclared_names own.1.derived) x.derived are.derived_are,
    )

-- ---- the schema

outline-holds : (tree : SchemaDeclaration) (text : List ℕ) (s : Schema) → IsTextOf tree text → IsOutline (schema_digest tree) s
    → ((x : Entity) → Contains s.entities x → Each (IsRedeclared s) x.redeclared × Each (IsPlace s) x.derived)
    → HasNoCircle (HasSupertype s) → HasNoCircle (Renames s)
    → HasNoCircle (HasSelect s) → RedeclaresOnce s → HoldsTogether s
outline-holds tree text s is outline redeclared supertypes renaming selects once = record {
  entities_are = entities_are (schema_digest tree) s outline redeclared (λ d among.
      let (x, x_among, same) = Contains-unmapped entity_digest (entities_of tree.declarations) d among in
      let P : EntityDigest → Type 0 = λ z. length (digest_own_explicit z.explicit) < 2 ^ 32 in
      subst P same (few-attributes tree text x is x_among));
  types_are = types_are (schema_digest tree) s outline;
  one_of_are = one_of_are (schema_digest tree) s outline;
  few = outline-few tree s text is outline;
  supertypes_end = supertypes;
  renaming_ends = renaming;
  selects_end = selects;
  entities_distinct = distinct_names-entities s (distinct (schema_digest tree) s outline);
  types_distinct = distinct_names-types s (distinct (schema_digest tree) s outline);
  redeclares_once = once;
}

pub bare-holds : (k : SchemaDigest) (s : Schema) → AreOfText k → IsBareSchema k s → HoldsTogether s
bare-holds k s (tree, text, is, same) is_bare_schema =
    let P : SchemaDigest → Type 0 = λ v. IsOutline v s in
    let outline = subst P same is_bare_schema.outline in
    outline-holds tree text s is outline (bare_holds (schema_digest tree) s outline is_bare_schema.is_bare) is_bare_schema.supertypes_end
    is_bare_schema.renaming_ends is_bare_schema.selects_end (redeclares_once (schema_digest tree) s outline is_bare_schema.is_bare)

pub whole-holds : (k : SchemaDigest) (s : Schema) → AreOfText k → DeclaredBy k s → HoldsTogether s
whole-holds k s (tree, text, is, same) declared =
    let P : SchemaDigest → Type 0 = λ v. DeclaredBy v s in
    let by : DeclaredBy (schema_digest tree) s = subst P same declared in
    outline-holds tree text s is by.outline (redeclared-within (schema_digest tree) s by) by.supertypes_end by.renaming_ends by.selects_end
    (declared-redeclares_once tree s (digest-declares tree s is.is_within by))
