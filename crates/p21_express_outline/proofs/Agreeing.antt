-- Schemas with the same names of entities, supertypes and attributes have the same orders and places, and so the same
-- redeclarations resolve in them to the same places.
use Rattle.std.specs.Prelude.{◌≡◌, ◌⊎◌, ℕ, zero, suc, List, [], ◌∷◌, ◌++◌, length, map, Option, Some, None, slice_get, Contains, refl}
use Rattle.std.specs.List.{flat_map, enumerate_from}
use Rattle.std.specs.Option.{option_map}
use Rattle.std.proofs.Common.{ap, sym, ◌∙◌, subst, inl, inr}
use Rattle.std.proofs.lemmas.List.{length-map}
use Rattle.std.proofs.lemmas.Option.{slice_get-map}
use Rattle.p21_spec_schema.specs.Schema.{Schema, Place, Entity, Attribute, EntityNamed, PlaceNamed, attributes_of, attribute_at}
use Rattle.p21_spec_schema.specs.Supertype.{supertypes_of, IsA, itself, above}
use Rattle.p21_spec_schema.specs.Order.{order_within, order, own_places, places, first_occurrences}
use Rattle.p21_spec_schema.specs.Redeclaration.{IsProperSupertype, IsOwnPlace, IsPlaceOf, RedeclaresPlace, HasNoPlace}
use Rattle.p21_express_syntax.specs.Digest.{EntityDigest}
use Rattle.p21_express_outline.specs.Bare.{bare_entity, bare}
use Rattle.p21_express_outline.specs.Outline.{Named, digest_redeclared_explicit}
use Rattle.p21_express_outline.specs.Redeclarations.{DigestRedeclaredIs, DigestDerivesName, DigestDerivedAre, no_more, a_place, no_place, RedeclarationsAre}
use Rattle.p21_express_outline.proofs.Zips.{AllZip-weaker, at-mapped, mapped-at}

pub record Agree (s t : Schema) : Type 0 where
  pub named_are : (e : ℕ) (name : List ℕ) → EntityNamed s e name → EntityNamed t e name
  pub supertypes_are : (e : ℕ) → supertypes_of s e ≡ supertypes_of t e
  pub attributes_are : (e : ℕ) → attributes_of s e ≡ attributes_of t e
  pub count_is : length s.entities ≡ length t.entities

flat_map-same : {X Y : Type 0} (f g : X → List Y) (xs : List X) → ((x : X) → f x ≡ g x) → flat_map f xs ≡ flat_map g xs
flat_map-same f g [] same = refl
flat_map-same f g (x ∷ xs) same = ap (λ ys. ys ++ flat_map f xs) (same x) ∙ ap (λ ys. g x ++ ys) (flat_map-same f g xs same)

order_within-agree : (s t : Schema) → Agree s t → (n e : ℕ) → order_within s n e ≡ order_within t n e
order_within-agree s t agree zero e = refl
order_within-agree s t agree (suc n) e =
    ap (λ es. first_occurrences (flat_map (order_within s n) es ++ e ∷ [])) (agree.supertypes_are e)
    ∙ ap (λ es. first_occurrences (es ++ e ∷ [])) (flat_map-same (order_within s n) (order_within t n) (supertypes_of t e)
    (order_within-agree s t agree n))

order-agree : (s t : Schema) → Agree s t → (e : ℕ) → order s e ≡ order t e
order-agree s t agree e = ap (λ n. order_within s n e) agree.count_is ∙ order_within-agree s t agree (length t.entities) e

own_places-agree : (s t : Schema) → Agree s t → (e : ℕ) → own_places s e ≡ own_places t e
own_places-agree s t agree e = let f : List Attribute
    → List Place = λ xs. map (λ p. record { entity = e; index = p.0 }) (enumerate_from 0 xs) in ap f (agree.attributes_are e)

places-agree : (s t : Schema) → Agree s t → (e : ℕ) → places s e ≡ places t e
places-agree s t agree e = ap (flat_map (own_places s)) (order-agree s t agree e)
    ∙ flat_map-same (own_places s) (own_places t) (order t e) (own_places-agree s t agree)

attribute-agree : (s t : Schema) → Agree s t → (place : Place) → attribute_at s place ≡ attribute_at t place
attribute-agree s t agree place = ap (λ xs. slice_get xs place.index) (agree.attributes_are place.entity)

place_named-by : (s t : Schema) (place : Place) (name : List ℕ) → attribute_at s place ≡ attribute_at t place → PlaceNamed s place name
    → PlaceNamed t place name
place_named-by s t place name same (a, at, named) = (a, sym same ∙ at, named)

is_a-agree : (s t : Schema) → Agree s t → (e f : ℕ) → IsA s e f → IsA t e f
is_a-agree s t agree _ _ (itself e) = itself e
is_a-agree s t agree _ _ (above sub next sup among is) = let P : List ℕ
    → Type 0 = λ es. Contains es next in above sub next sup (subst P (agree.supertypes_are sub) among) (is_a-agree s t agree next sup is)

proper-agree : (s t : Schema) → Agree s t → (e sup : ℕ) (name : List ℕ) → IsProperSupertype s e sup name → IsProperSupertype t e sup name
proper-agree s t agree e sup name (named, is_a, other) = (agree.named_are sup name named, is_a-agree s t agree e sup is_a, other)

own-agree : (s t : Schema) → Agree s t → (e : ℕ) (name : List ℕ) (place : Place) → IsOwnPlace s e name place → IsOwnPlace t e name place
own-agree s t agree e name place (of, named) = (of, place_named-by s t place name (attribute-agree s t agree place) named)

agree-own : (s t : Schema) → Agree s t → (e : ℕ) (name : List ℕ) (place : Place) → IsOwnPlace t e name place → IsOwnPlace s e name place
agree-own s t agree e name place (of, named) = (of, place_named-by t s place name (sym (attribute-agree s t agree place)) named)

place_of-agree : (s t : Schema) → Agree s t → (e : ℕ) (name : List ℕ) (place : Place) → IsPlaceOf s e name place → IsPlaceOf t e name place
place_of-agree s t agree e name place (among, named) =
    let P : List Place → Type 0 = λ ps. Contains ps place in
    (subst P (places-agree s t agree e) among, place_named-by s t place name (attribute-agree s t agree place) named)

agree-place_of : (s t : Schema) → Agree s t → (e : ℕ) (name : List ℕ) (place : Place) → IsPlaceOf t e name place → IsPlaceOf s e name place
agree-place_of s t agree e name place (among, named) =
    let P : List Place → Type 0 = λ ps. Contains ps place in
    (subst P (sym (places-agree s t agree e)) among, place_named-by t s place name (sym (attribute-agree s t agree place)) named)

pub redeclares-agree : (s t : Schema) → Agree s t → (e : ℕ) (supertype name : List ℕ) (place : Place)
    → RedeclaresPlace s e supertype name place → RedeclaresPlace t e supertype name place
redeclares-agree s t agree e supertype name place (sup, proper, is) = (sup, proper-agree s t agree e sup supertype proper, by is)
  where
    by : IsOwnPlace s sup name place ⊎ (((other : Place) → ¬ IsOwnPlace s sup name other) × IsPlaceOf s sup name place
        × ((other : Place) → IsPlaceOf s sup name other → other ≡ place))
        → IsOwnPlace t sup name place ⊎ (((other : Place) → ¬ IsOwnPlace t sup name other) × IsPlaceOf t sup name place
        × ((other : Place) → IsPlaceOf t sup name other → other ≡ place))
    by (inl h) = inl (own-agree s t agree sup name place h)
    by (inr h) = inr (
      λ other own. h.0 other (agree-own s t agree sup name other own),
      place_of-agree s t agree sup name place h.1,
      λ other
          of. h.2 other (agree-place_of s t agree sup name other of),
    )

pub none-agree : (s t : Schema) → Agree s t → (sup : ℕ) (name : List ℕ) → HasNoPlace s sup name → HasNoPlace t sup name
none-agree s t agree sup name none = λ place of. none place (agree-place_of s t agree sup name place of)

pub derives-agree : (s t : Schema) → Agree s t → (entities : List EntityDigest) (e : ℕ) (name : List ℕ)
    → DigestDerivesName s entities e name → DigestDerivesName t entities e name
derives-agree s t agree entities e name (f, x, is_a, at, among) = (f, x, is_a-agree s t agree e f is_a, at, among)

pub derived-agree : (s t : Schema) → Agree s t → (entities : List EntityDigest) (e : ℕ) (names : List (List ℕ × List ℕ))
    (found : List Place) → DigestDerivedAre s entities e names found → DigestDerivedAre t entities e names found
derived-agree s t agree entities e _ _ no_more = no_more
derived-agree s t agree entities e _ _ (a_place supertype name place names found is rest) =
    a_place supertype name place names found (redeclares-agree s t agree e supertype name place is)
    (derived-agree s t agree entities e names found rest)
derived-agree s t agree entities e _ _ (no_place supertype name sup names found is none derives rest) =
    no_place supertype name sup names found (proper-agree s t agree e sup supertype is) (none-agree s t agree sup name none)
    (derives-agree s t agree entities sup name derives) (derived-agree s t agree entities e names found rest)

pub redeclarations-agree : (s t : Schema) → Agree s t
    → (n : Named) (entities : List EntityDigest) (e : ℕ) (x : EntityDigest) (found : Entity) → RedeclarationsAre s n entities e x found
    → RedeclarationsAre t n entities e x found
redeclarations-agree s t agree n entities e x found are = record {
  redeclared_are = AllZip-weaker (DigestRedeclaredIs s n e) (DigestRedeclaredIs t n e) (digest_redeclared_explicit x.explicit)
      found.redeclared (λ w r among among_ h. (redeclares-agree s t agree e w.0.0 w.0.1 r.place h.0, h.1, h.2)) are.redeclared_are;
  derived_are = derived-agree s t agree entities e _ found.derived are.derived_are;
  places_distinct = are.places_distinct;
}

-- ---- without redeclarations

abbrev supertypes_in : Option Entity → List ℕ
supertypes_in o = elim o [ Some x ↦ x.supertypes | None ↦ [] ]

abbrev attributes_in : Option Entity → List Attribute
attributes_in o = elim o [ Some x ↦ x.attributes | None ↦ [] ]

pub supertypes-bare : (s : Schema) (e : ℕ) → supertypes_of (bare s) e ≡ supertypes_of s e
supertypes-bare s e = ap supertypes_in (slice_get-map bare_entity s.entities e) ∙ by (slice_get s.entities e)
  where
    by : (o : Option Entity) → supertypes_in (option_map bare_entity o) ≡ supertypes_in o
    by None = refl
    by (Some x) = refl

pub attributes-bare : (s : Schema) (e : ℕ) → attributes_of (bare s) e ≡ attributes_of s e
attributes-bare s e = ap attributes_in (slice_get-map bare_entity s.entities e) ∙ by (slice_get s.entities e)
  where
    by : (o : Option Entity) → attributes_in (option_map bare_entity o) ≡ attributes_in o
    by None = refl
    by (Some x) = refl

named-bare : (s : Schema) (e : ℕ) (name : List ℕ) → EntityNamed (bare s) e name → EntityNamed s e name
named-bare s e name (x, at, named) = let (y, at_y, same) = at-mapped bare_entity s.entities e x at in
    (y, at_y, ap (λ z. z.name) same ∙ named)

pub bare-agrees : (s : Schema) → Agree (bare s) s
bare-agrees s = record {
  named_are = named-bare s;
  supertypes_are = supertypes-bare s;
  attributes_are = attributes-bare s;
  count_is =
      length-map s.entities bare_entity;
}

pub agrees-bare : (s : Schema) → Agree s (bare s)
agrees-bare s = record {
  named_are = λ e name (x, at, named). (bare_entity x, mapped-at bare_entity s.entities e x at, named);
  supertypes_are = λ e. sym (supertypes-bare s e);
  attributes_are = λ e. sym (attributes-bare s e);
  count_is = sym (length-map s.entities bare_entity);
}
