-- The outline of declarations by its parts.
use Rattle.std.specs.Prelude.{◌≡◌, ℕ, List, [], ◌∷◌, ◌++◌, map, Result, Ok, Err, Vec, refl}
use Rattle.std.specs.Prelude as std
use Rattle.std.specs.declared.alloc.Global.{Global}
use Rattle.std.specs.List.{AllZip, IsDistinct}
use Rattle.std.specs.Result.{IsErr, IsErrAnd}
use Rattle.std.specs.Str.{bytes_eq}
use Rattle.std.proofs.Common.{ap, sym, ◌∙◌, subst}
use Rattle.p21_spec_schema.specs.Schema as pure
use Rattle.p21_spec_schema.specs.Schema.{Schema}
use Rattle.p21_express_outline.specs.Entities.{EntityFound}
use Rattle.p21_express_outline.specs.Finding.{RefusalShows}
use Rattle.p21_express_outline.specs.Known.{names_of}
use Rattle.p21_express_outline.specs.Outlined.{OutlineFound, list_of}
use Rattle.p21_express_outline.specs.declared.fault.SchemaFault.{SchemaFault}
use Rattle.p21_express_graph.specs.declared.schema_contents.KnownNames.{KnownNames}
use Rattle.p21_express_outline.specs.Bare.{bare_entity}
use Rattle.p21_express_outline.specs.Outline.{Named, digest_names, EntityOutline, TypeOutline, DigestOneOfIs, digest_one_of_lists}
use Rattle.p21_express_outline.proofs.Zips.{AllZip-weaker, AllZip-same}
use Rattle.p21_express_syntax.specs.Digest.{EntityDigest, SchemaDigest}
use Rattle.p21_express_graph.specs.SchemaContents.{entity, defined}
use Rattle.p21_express_graph.specs.declared.schema_contents.SchemaContents.{SchemaContents}
use Rattle.p21_express_graph.specs.declared.schema_contents.Entity.{Entity}
use Rattle.p21_express_graph.specs.declared.schema_contents.Defined.{Defined}
use Rattle.p21_express_graph.specs.declared.number.EntityId.{EntityId}

-- entities without what they redeclare
pub bare-found : (n : Named) (xs : List EntityDigest) (ys : List pure.Entity) → AllZip (EntityOutline n) xs ys
    → AllZip (EntityFound n) xs (map bare_entity ys)
bare-found n [] [] all = tt
bare-found n [] (y ∷ ys) all = absurd all
bare-found n (x ∷ xs) [] all = absurd all
bare-found n (x ∷ xs) (y ∷ ys) all =
    let is = all.0 in (
      (
        record {
          name_is = is.name_is;
          abstract_is = is.abstract_is;
          supertypes_are = is.supertypes_are;
          attributes_are =
              is.attributes_are;
          supertypes_distinct = is.supertypes_distinct;
          names_distinct = is.names_distinct;
        },
        refl,
        refl,
      ),
      bare-found n xs
          ys all.1,
    )

found-bare : (n : Named) (xs : List EntityDigest) (ys : List pure.Entity) → AllZip (EntityFound n) xs ys → map bare_entity ys ≡ ys
found-bare n [] [] all = refl
found-bare n [] (y ∷ ys) all = absurd all
found-bare n (x ∷ xs) [] all = absurd all
found-bare n (x ∷ xs) (y ∷ ys) all =
    let f : List pure.Redeclared → pure.Entity = λ v. record {
      name = y.name;
      is_abstract = y.is_abstract;
      supertypes =
          y.supertypes;
      attributes = y.attributes;
      redeclared = v;
      derived = [];
    } in
    let g : List pure.Place → pure.Entity = λ v. record {
      name = y.name;
      is_abstract = y.is_abstract;
      supertypes =
          y.supertypes;
      attributes = y.attributes;
      redeclared = y.redeclared;
      derived = v;
    } in
    let first : bare_entity y ≡ y = ap f (sym all.0.1) ∙ ap g (sym all.0.2) in
    ap (λ z. z ∷ map bare_entity ys) first ∙ ap (λ zs. y ∷ zs) (found-bare n xs ys all.1)

pub entities-refused : (k : SchemaDigest) (n : Named) (fault : SchemaFault) (result : Result SchemaContents SchemaFault)
    → n ≡ digest_names k → IsErr result → IsErrAnd result (λ found. found ≡ fault)
    → RefusalShows fault ((ys : List pure.Entity) → AllZip (EntityFound n) k.entities ys → ⊥)
    → OutlineFound k result
entities-refused k n fault (Ok u) same is_err is refused = cc
entities-refused k n fault (Err found) same is_err is refused = λ other s outline.
    let P : Named → Type 0 = λ m. AllZip (EntityFound m) k.entities (map bare_entity s.entities) in
    refused (λ e. other (is ∙ e)) (map bare_entity s.entities)
    (subst P (sym same) (bare-found (digest_names k) k.entities s.entities outline.entities_are))

pub outline-found : (k : SchemaDigest) (name : List ℕ) (known : KnownNames) (entities : std.Vec Entity Global)
    (types : std.Vec Defined Global) (lists : std.Vec (std.Vec EntityId Global) Global)
    → (names_of known ≡ digest_names k) × IsDistinct bytes_eq ((digest_names k).entities ++ (digest_names k).types) → name ≡ k.name
    → AllZip (EntityFound (names_of known)) k.entities (map entity entities.items)
    → AllZip (DigestOneOfIs (names_of known)) (digest_one_of_lists k.entities) (map list_of lists.items)
    → AllZip (TypeOutline (names_of known)) k.types (map defined types.items)
    → OutlineFound k (Ok (record { name = name; names = known; entities = entities; types = types; one_of_lists = lists }))
outline-found k name known entities types lists (same, distinct) name_is entities_are lists_are types_are =
    let n = names_of known in
    let P : Named → Type 0 = λ m. AllZip (EntityOutline m) k.entities (map entity entities.items) in
    let Q : Named → Type 0 = λ m. AllZip (DigestOneOfIs m) (digest_one_of_lists k.entities) (map list_of lists.items) in
    let R : Named → Type 0 = λ m. AllZip (TypeOutline m) k.types (map defined types.items) in
    let outlines : AllZip (EntityOutline n) k.entities (map entity entities.items) =
    AllZip-weaker (EntityFound n) (EntityOutline n) k.entities (map entity entities.items) (λ x y among among_ h. h.0) entities_are in
    let f : List pure.Entity → Schema = λ v. record {
      name = name;
      entities = v;
      types = map defined types.items;
      one_of_lists =
          map list_of lists.items;
    } in
    let entities_named : known.entities ≡ map (λ x. x.name) (map entity entities.items) =
    ap (λ m. m.entities) same ∙ sym (AllZip-same (EntityOutline n) (λ x. x.name) (λ x. x.name) (λ x y h. h.name_is) k.entities
    (map entity entities.items) outlines) in
    let types_named : known.types ≡ map (λ x. x.name) (map defined types.items) =
    ap (λ m. m.types) same ∙ sym (AllZip-same (TypeOutline n) (λ x. x.name) (λ x. x.name) (λ x y h. h.name_is) k.types
    (map defined types.items) types_are) in (
      record {
        name_is = name_is;
        entities_are = subst P same outlines;
        types_are = subst R same types_are;
        one_of_are =
            subst Q same lists_are;
        names_distinct = distinct;
      },
      record { entities_are = entities_named; types_are = types_named },
      ap f (found-bare n k.entities (map entity entities.items) entities_are),
    )
