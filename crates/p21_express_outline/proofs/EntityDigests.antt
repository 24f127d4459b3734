-- An entity declaration, and what is kept of it.
use Rattle.std.specs.Prelude.{◌≡◌, ℕ, ◌≤◌, Bool, List, [], ◌∷◌, ◌++◌, map, Option, Some, None, Contains, refl}
use Rattle.std.specs.List.{AllZip, flat_map, IsDistinct, AllByRecursion as Each}
use Rattle.std.specs.Str.{bytes_eq}
use Rattle.std.proofs.Common.{ap, sym, ◌∙◌, subst}
use Rattle.p21_spec_basics.proofs.Members.{Each-member, Contains-one_of, Contains-unmapped}
use Rattle.p21_spec_schema.specs.EntityDeclaration as written
use Rattle.p21_spec_schema.specs.EntityDeclaration.{own, redeclared, DerivedAttribute, EntityDeclaration, ExplicitAttributes}
use Rattle.p21_spec_schema.specs.Schema.{Schema, Entity, Place}
use Rattle.p21_spec_schema.specs.SupertypeConstraint.{one_of, other_run, SupertypeConstraint, no_constraint, abstract_entity, abstract_supertype, abstract_supertype_of, supertype_of}
use Rattle.p21_spec_schema.specs.WrittenType.{WrittenType, nesting}
use Rattle.p21_spec_schema.specs.DeclaredEntity.{DeclaresEntity, DeclaresAttribute, DeclaresRedeclared, DerivesName, DeclaresDerived, no_more, a_place, no_place, names_of, derived_names, own_names, redeclared_names, own_explicit, redeclared_explicit, is_abstract_by}
use Rattle.p21_spec_schema.specs.DeclaredType.{deepest_nesting}
use Rattle.p21_spec_schema.specs.DeclaredOneOf.{one_of_names, all_one_of_names}
use Rattle.p21_express_syntax.specs.Digest.{TypeDigest, EntityDigest}
use Rattle.p21_express_syntax.specs.Digesting.{type_digest, name_digest, attributes_digest, constraint_digest, derived_digests, entity_digest}
use Rattle.p21_express_syntax.specs.Within.{HasNumbers}
use Rattle.p21_express_outline.specs.Outline.{Named, IsNamed, digest_own_names, digest_redeclared_names, digest_own_explicit, digest_redeclared_explicit, DigestAttributeIs, EntityOutline, attribute_names, one_of_list, digest_one_of_lists}
use Rattle.p21_express_outline.specs.Redeclarations as kept
use Rattle.p21_express_outline.specs.Redeclarations.{DigestRedeclaredIs, DigestDerivesName, DigestDerivedAre, RedeclarationsAre}
use Rattle.p21_express_outline.proofs.NameLemmas.{HasNames, entity-at, entity-of}
use Rattle.p21_express_outline.proofs.TypeDigests.{type-digested, type-written}
use Rattle.p21_express_outline.proofs.Zips.{AllZip-weaker, AllZip-mapped, AllZip-unmapped, map-twice, flat_map-mapped, at-mapped, mapped-at}

-- ---- names

pub own-digested : (names : List written.AttributeName) → digest_own_names (map name_digest names) ≡ own_names names
own-digested [] = refl
own-digested (own name ∷ names) = ap (λ ns. name ∷ ns) (own-digested names)
own-digested (redeclared entity name ∷ names) = own-digested names

pub redeclared-digested : (names : List written.AttributeName) → digest_redeclared_names (map name_digest names) ≡ redeclared_names names
redeclared-digested [] = refl
redeclared-digested (own name ∷ names) = redeclared-digested names
redeclared-digested (redeclared entity name ∷ names) = ap (λ (ns : List (List ℕ × List ℕ)). (entity, name) ∷ ns) (redeclared-digested names)

pub derived-digested : (derive : Option (List DerivedAttribute)) → derived_digests derive ≡ map name_digest (derived_names derive)
derived-digested None = refl
derived-digested (Some derived) = sym (map-twice (λ x. x.name) name_digest derived)

all_names-digested : (explicit : List ExplicitAttributes)
    → flat_map (λ d. d.names) (map attributes_digest explicit) ≡ map name_digest (flat_map (λ d. d.names) explicit)
all_names-digested explicit = flat_map-mapped attributes_digest (λ d. d.names) (λ d. d.names) name_digest explicit (λ x. refl)

attribute_names-digested : (x : EntityDeclaration)
    → attribute_names (entity_digest x) ≡ own_names (flat_map (λ d. d.names) x.explicit) ++ own_names (derived_names x.derive)
attribute_names-digested x =
    ap (λ ns. digest_own_names ns ++ digest_own_names (derived_digests x.derive)) (all_names-digested x.explicit)
    ∙ ap (λ ns. ns ++ digest_own_names (derived_digests x.derive)) (own-digested (flat_map (λ d. d.names) x.explicit))
    ∙ ap (λ ns. own_names (flat_map (λ d. d.names) x.explicit) ++ digest_own_names ns) (derived-digested x.derive)
    ∙ ap (λ ns. own_names (flat_map (λ d. d.names) x.explicit) ++ ns) (own-digested (derived_names x.derive))

abstract-digested : (c : SupertypeConstraint) → (constraint_digest c).is_abstract ≡ is_abstract_by c
abstract-digested no_constraint = refl
abstract-digested abstract_entity = refl
abstract-digested abstract_supertype = refl
abstract-digested (abstract_supertype_of expression) = refl
abstract-digested (supertype_of expression) = refl

-- ---- attributes with their types

abbrev pub digest_own : List ℕ × Bool × WrittenType → List ℕ × Bool × TypeDigest
digest_own x = (x.0, x.1, type_digest x.2)

abbrev pub digest_redeclared : (List ℕ × List ℕ) × Bool × WrittenType → (List ℕ × List ℕ) × Bool × TypeDigest
digest_redeclared x = (x.0, x.1, type_digest x.2)

own_explicit-digested : (explicit : List ExplicitAttributes)
    → digest_own_explicit (map attributes_digest explicit) ≡ map digest_own (own_explicit explicit)
own_explicit-digested explicit = flat_map-mapped attributes_digest
    (λ x. map (λ name. (name, x.optional, x.type)) (digest_own_names x.names))
    (λ x. map (λ name. (name, x.optional, x.type)) (own_names x.names)) digest_own explicit
    (λ x. ap (map (λ name. (name, x.optional, type_digest x.type))) (own-digested x.names)
    ∙ sym (map-twice (λ name. (name, x.optional, x.type)) digest_own (own_names x.names)))

redeclared_explicit-digested : (explicit : List ExplicitAttributes)
    → digest_redeclared_explicit (map attributes_digest explicit) ≡ map digest_redeclared (redeclared_explicit explicit)
redeclared_explicit-digested explicit = flat_map-mapped attributes_digest
    (λ x. map (λ name. (name, x.optional, x.type)) (digest_redeclared_names x.names))
    (λ x. map (λ name. (name, x.optional, x.type)) (redeclared_names x.names)) digest_redeclared explicit
    (λ x. ap (map (λ name. (name, x.optional, type_digest x.type))) (redeclared-digested x.names)
    ∙ sym (map-twice (λ name. (name, x.optional, x.type)) digest_redeclared (redeclared_names x.names)))

-- ---- the entity

pub entity-digested : (s : Schema) (n : Named) → HasNames s n
    → (ds : List EntityDeclaration) (e : ℕ) (x : EntityDeclaration) (found : Entity) → DeclaresEntity s ds e x found
    → EntityOutline n (entity_digest x) found
entity-digested s n has ds e x found is = record {
  name_is = is.name_is;
  abstract_is = is.abstract_is ∙ sym (abstract-digested x.constraint);
  supertypes_are =
      AllZip-weaker _ (IsNamed n.entities) found.supertypes (names_of x.subtype_of)
      (λ f name among among_ named. entity-at s n has f name named) is.supertypes_are;
  attributes_are =
      let P : List (List ℕ × Bool × TypeDigest) → Type 0 = λ xs. AllZip (DigestAttributeIs n) xs found.attributes in
      subst P (sym (own_explicit-digested x.explicit)) (AllZip-mapped (DigestAttributeIs n) digest_own (own_explicit x.explicit)
      found.attributes
      (AllZip-weaker (DeclaresAttribute s) (λ w a. DigestAttributeIs n (digest_own w) a) (own_explicit x.explicit) found.attributes
      (λ w a among among_ h. (h.0, h.1, type-digested s n has w.2 a.type h.2)) is.attributes_are));
  supertypes_distinct = is.supertypes_distinct;
  names_distinct = subst (IsDistinct bytes_eq) (sym (attribute_names-digested x)) is.names_distinct;
}

-- ---- what it redeclares

derives-digested : (s : Schema) (ds : List EntityDeclaration) (e : ℕ) (name : List ℕ) → DerivesName s ds e name
    → DigestDerivesName s (map entity_digest ds) e name
derives-digested s ds e name (f, x, is_a, at, among) =
    let P : List (List ℕ) → Type 0 = λ names. Contains names name in (
      f,
      entity_digest x,
      is_a,
      mapped-at entity_digest ds f x at,
      subst P
          (sym (ap digest_own_names (derived-digested x.derive) ∙ own-digested (derived_names x.derive))) among,
    )

derives-written : (s : Schema) (ds : List EntityDeclaration) (e : ℕ) (name : List ℕ) → DigestDerivesName s (map entity_digest ds) e name
    → DerivesName s ds e name
derives-written s ds e name (f, x, is_a, at, among) =
    let (d, at_d, same) = at-mapped entity_digest ds f x at in
    let P : List (List ℕ) → Type 0 = λ names. Contains names name in
    let Q : EntityDigest → Type 0 = λ k. Contains (digest_own_names k.derived) name in (
      f,
      d,
      is_a,
      at_d,
      subst P (ap digest_own_names (derived-digested d.derive) ∙ own-digested (derived_names d.derive))
          (subst Q (sym same) among),
    )

places-digested : (s : Schema) (ds : List EntityDeclaration) (e : ℕ) (names : List (List ℕ × List ℕ)) (found : List Place)
    → DeclaresDerived s ds e names found → DigestDerivedAre s (map entity_digest ds) e names found
places-digested s ds e _ _ no_more = kept.no_more
places-digested s ds e _ _ (a_place supertype name place names found is rest) =
    kept.a_place supertype name place names found is (places-digested s ds e names found rest)
places-digested s ds e _ _ (no_place supertype name sup names found is none derives rest) =
    kept.no_place supertype name sup names found is none (derives-digested s ds sup name derives) (places-digested s ds e names found rest)

places-written : (s : Schema) (ds : List EntityDeclaration) (e : ℕ) (names : List (List ℕ × List ℕ)) (found : List Place)
    → DigestDerivedAre s (map entity_digest ds) e names found → DeclaresDerived s ds e names found
places-written s ds e _ _ kept.no_more = no_more
places-written s ds e _ _ (kept.a_place supertype name place names found is rest) =
    a_place supertype name place names found is (places-written s ds e names found rest)
places-written s ds e _ _ (kept.no_place supertype name sup names found is none derives rest) =
    no_place supertype name sup names found is none (derives-written s ds sup name derives) (places-written s ds e names found rest)

derived_names-digested : (derive : Option (List DerivedAttribute))
    → digest_redeclared_names (derived_digests derive) ≡ redeclared_names (derived_names derive)
derived_names-digested derive = ap digest_redeclared_names (derived-digested derive) ∙ redeclared-digested (derived_names derive)

pub redeclarations-digested : (s : Schema) (n : Named) → HasNames s n
    → (ds : List EntityDeclaration) (e : ℕ) (x : EntityDeclaration) (found : Entity) → DeclaresEntity s ds e x found
    → RedeclarationsAre s n (map entity_digest ds) e (entity_digest x) found
redeclarations-digested s n has ds e x found is = record {
  redeclared_are =
      let P : List ((List ℕ × List ℕ) × Bool × TypeDigest) → Type 0 = λ xs. AllZip (DigestRedeclaredIs s n e) xs found.redeclared in
      subst P (sym (redeclared_explicit-digested x.explicit))
      (AllZip-mapped (DigestRedeclaredIs s n e) digest_redeclared (redeclared_explicit x.explicit) found.redeclared
      (AllZip-weaker (DeclaresRedeclared s e) (λ w r. DigestRedeclaredIs s n e (digest_redeclared w) r) (redeclared_explicit x.explicit)
      found.redeclared (λ w r among among_ h. (h.0, h.1, type-digested s n has w.2 r.type h.2)) is.redeclared_are));
  derived_are =
      let P : List (List ℕ × List ℕ) → Type 0 = λ names. DigestDerivedAre s (map entity_digest ds) e names found.derived in
      subst P (sym (derived_names-digested x.derive)) (places-digested s ds e (redeclared_names (derived_names x.derive)) found.derived
      is.derived_are);
  places_distinct = is.places_distinct;
}

-- ---- ONEOF lists

one_of-digested : (c : SupertypeConstraint) → one_of_list (constraint_digest c).one_of ≡ one_of_names c
one_of-digested no_constraint = refl
one_of-digested abstract_entity = refl
one_of-digested abstract_supertype = refl
one_of-digested (abstract_supertype_of (one_of names)) = refl
one_of-digested (abstract_supertype_of (other_run run)) = refl
one_of-digested (supertype_of (one_of names)) = refl
one_of-digested (supertype_of (other_run run)) = refl

pub all_one_of-digested : (ds : List EntityDeclaration) → digest_one_of_lists (map entity_digest ds) ≡ all_one_of_names ds
all_one_of-digested [] = refl
all_one_of-digested (x ∷ ds) = ap (λ ls. ls ++ digest_one_of_lists (map entity_digest ds)) (one_of-digested x.constraint)
    ∙ ap (λ ls. one_of_names x.constraint ++ ls) (all_one_of-digested ds)

-- ---- from what is kept to what is written

abbrev pub IsSmall : ExplicitAttributes → Type 0
IsSmall d = nesting d.type ≤ deepest_nesting

own-numbered : (explicit : List ExplicitAttributes) → Each (λ d. HasNumbers d.type) explicit → (w : List ℕ × Bool × WrittenType)
    → Contains (own_explicit explicit) w → HasNumbers w.2
own-numbered explicit each w among =
    let (d, at, in_d) = Contains-one_of (λ x. map (λ name. (name, x.optional, x.type)) (own_names x.names)) explicit w among in
    let (name, at_name, same) = Contains-unmapped (λ name. (name, d.optional, d.type)) (own_names d.names) w in_d in
    let P : List ℕ × Bool × WrittenType → Type 0 = λ v. HasNumbers v.2 in
    subst P same (Each-member (λ z. HasNumbers z.type) explicit d each at)

redeclared-numbered : (explicit : List ExplicitAttributes) → Each (λ d. HasNumbers d.type) explicit
    → (w : (List ℕ × List ℕ) × Bool × WrittenType) → Contains (redeclared_explicit explicit) w → HasNumbers w.2
redeclared-numbered explicit each w among =
    let (d, at, in_d) = Contains-one_of (λ x. map (λ name. (name, x.optional, x.type)) (redeclared_names x.names)) explicit w among in
    let (name, at_name, same) = Contains-unmapped (λ name. (name, d.optional, d.type)) (redeclared_names d.names) w in_d in
    let P : (List ℕ × List ℕ) × Bool × WrittenType → Type 0 = λ v. HasNumbers v.2 in
    subst P same (Each-member (λ z. HasNumbers z.type) explicit d each at)

pub entity-written : (s : Schema) (n : Named) → HasNames s n
    → (ds : List EntityDeclaration) (e : ℕ) (x : EntityDeclaration) (found : Entity) → Each IsSmall x.explicit
    → Each (λ d. HasNumbers d.type) x.explicit
    → EntityOutline n (entity_digest x) found → RedeclarationsAre s n (map entity_digest ds) e (entity_digest x) found
    → DeclaresEntity s ds e x found
entity-written s n has ds e x found small numbers is are = record {
  name_is = is.name_is;
  abstract_is = is.abstract_is ∙ abstract-digested x.constraint;
  supertypes_are =
      AllZip-weaker (IsNamed n.entities) _ found.supertypes (names_of x.subtype_of)
      (λ f name among among_ named. entity-of s n has f name named) is.supertypes_are;
  attributes_are =
      let P : List (List ℕ × Bool × TypeDigest) → Type 0 = λ xs. AllZip (DigestAttributeIs n) xs found.attributes in
      AllZip-weaker (λ w a. DigestAttributeIs n (digest_own w) a) (DeclaresAttribute s) (own_explicit x.explicit) found.attributes
      (λ w a among among_ h. (h.0, h.1, type-written s n has w.2 a.type (own-numbered x.explicit numbers w among) h.2))
      (AllZip-unmapped (DigestAttributeIs n) digest_own (own_explicit x.explicit) found.attributes
      (subst P (own_explicit-digested x.explicit) is.attributes_are));
  redeclared_are =
      let P : List ((List ℕ × List ℕ) × Bool × TypeDigest) → Type 0 = λ xs. AllZip (DigestRedeclaredIs s n e) xs found.redeclared in
      AllZip-weaker (λ w r. DigestRedeclaredIs s n e (digest_redeclared w) r) (DeclaresRedeclared s e) (redeclared_explicit x.explicit)
      found.redeclared (λ w r among among_ h. (
        h.0,
        h.1,
        type-written s n has w.2 r.type
            (redeclared-numbered x.explicit numbers w among) h.2,
      ))
      (AllZip-unmapped (DigestRedeclaredIs s n e) digest_redeclared (redeclared_explicit x.explicit) found.redeclared
      (subst P (redeclared_explicit-digested x.explicit) are.redeclared_are));
  derived_are =
      let P : List (List ℕ × List ℕ) → Type 0 = λ names. DigestDerivedAre s (map entity_digest ds) e names found.derived in
      places-written s ds e (redeclared_names (derived_names x.derive)) found.derived
      (subst P (derived_names-digested x.derive) are.derived_are);
  nesting_small = small;
  supertypes_distinct = is.supertypes_distinct;
  names_distinct = subst (IsDistinct bytes_eq) (attribute_names-digested x) is.names_distinct;
  places_distinct = are.places_distinct;
}
