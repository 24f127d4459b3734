-- Kept declarations declare one schema at most, and so does a text.
use Rattle.std.specs.Prelude.{◌≡◌, ◌⊎◌, ℕ, zero, suc, ◌+◌, length, Bool, List, [], ◌∷◌, map, Option, Some, None, slice_get, Contains, refl}
use Rattle.std.specs.List.{flat_map, enumerate_from}
use Rattle.std.proofs.Common.{arith, ap, sym, ◌∙◌, subst, inl, inr}
use Rattle.p21_spec_basics.proofs.Members.{Contains-flat_map, Contains-first, Contains-later, Contains-found, AllZip-second_member, at-front}
use Rattle.p21_spec_schema.specs.Schema as schema
use Rattle.p21_spec_schema.specs.Schema.{Schema, Place, Entity, Attribute, Redeclared, attributes_of, attribute_at}
use Rattle.p21_spec_schema.specs.Order.{order, own_places}
use Rattle.p21_spec_schema.specs.Redeclaration.{IsProperSupertype, IsOwnPlace, IsPlaceOf, RedeclaresPlace, HasNoPlace}
use Rattle.p21_spec_schema.specs.WellFormed.{HasDistinctEntities}
use Rattle.p21_spec_schema.proofs.Orders.{order_within-self}
use Rattle.p21_express_syntax.specs.Digest.{TypeDigest, EntityDigest, SchemaDigest}
use Rattle.p21_express_syntax.specs.Digesting.{schema_digest}
use Rattle.p21_express_syntax.proofs.SchemasRead.{one_digest}
use Rattle.p21_express_outline.specs.Bare.{bare_entity, bare}
use Rattle.p21_express_outline.specs.DeclaredBy.{DeclaredBy, OneSchemaDeclared}
use Rattle.p21_express_outline.specs.Outline.{Named, digest_names, EntityOutline, TypeOutline, DigestAttributeIs, digest_own_explicit, digest_own_names, digest_redeclared_explicit, digest_redeclared_names, attribute_names, IsOutline}
use Rattle.p21_express_outline.specs.Redeclarations.{DigestRedeclaredIs, DigestDerivedAre, no_more, a_place, no_place, RedeclarationsAre}
use Rattle.p21_express_outline.proofs.Agreeing.{agrees-bare, redeclarations-agree}
use Rattle.p21_express_outline.proofs.SchemaDigests.{declared-text}
use Rattle.p21_express_outline.proofs.TypeDigests.{type-one}
use Rattle.p21_express_outline.proofs.NameLemmas.{HasNames, entity-at, AreApart, one-entity, distinct-at}
use Rattle.p21_express_outline.proofs.OneOutline.{entity-one, outline-one, own-names}
use Rattle.p21_express_outline.proofs.Zips.{AllZip-one, AllZip-same, numbered-weaker, numbered-one, numbered-both, numbered, mapped-at, AllZip-second_mapped}

-- ---- places are told apart

pub record TellsPlaces (s : Schema) : Type 0 where
  pub one_entity : HasDistinctEntities s
  pub one_own : (e : ℕ) (name : List ℕ) (p q : Place) → IsOwnPlace s e name p → IsOwnPlace s e name q → p ≡ q

pub outline-names : (k : SchemaDigest) (s : Schema) → IsOutline k s → HasNames s (digest_names k)
outline-names k s is = record {
  entities_are = AllZip-same (EntityOutline (digest_names k)) (λ x. x.name) (λ x. x.name) (λ x y h. h.name_is) k.entities s.entities
      is.entities_are;
  types_are = AllZip-same (TypeOutline (digest_names k)) (λ x. x.name) (λ x. x.name) (λ x y h. h.name_is) k.types s.types is.types_are;
}

-- the attributes of an entity have different names
pub own-distinct : (n : Named) (x : EntityDigest) (found : Entity) → EntityOutline n x found → (i j : ℕ) (a b : Attribute)
    → slice_get found.attributes i ≡ Some a → slice_get found.attributes j ≡ Some b → a.name ≡ b.name → i ≡ j
own-distinct n x found is i j a b at at_ same =
    let names : map (λ v. v.name) found.attributes ≡ digest_own_names (flat_map (λ d. d.names) x.explicit) =
    AllZip-same (DigestAttributeIs n) (λ w. w.0) (λ v. v.name) (λ w v h. h.0) (digest_own_explicit x.explicit) found.attributes
    is.attributes_are ∙ own-names x.explicit in
    let P : List (List ℕ) → Type 0 = λ ns. slice_get ns i ≡ Some a.name in
    let Q : List (List ℕ) → Type 0 = λ ns. slice_get ns j ≡ Some b.name in
    let first : slice_get (attribute_names x) i ≡ Some a.name =
    at-front _ (digest_own_names x.derived) i a.name (subst P names (mapped-at (λ v. v.name) found.attributes i a at)) in
    let second : slice_get (attribute_names x) j ≡ Some b.name =
    at-front _ (digest_own_names x.derived) j b.name (subst Q names (mapped-at (λ v. v.name) found.attributes j b at_)) in
    distinct-at (attribute_names x) is.names_distinct i j b.name (first ∙ ap Some same) second

some-attribute : (s : Schema) (p : Place) (a : Attribute) → attribute_at s p ≡ Some a
    → (x : Entity) × (slice_get s.entities p.entity ≡ Some x) × (slice_get x.attributes p.index ≡ Some a)
some-attribute s p a at = by (slice_get s.entities p.entity) refl at
  where
    by : (o : Option Entity) → slice_get s.entities p.entity ≡ o → slice_get (elim o [ Some x ↦ x.attributes | None ↦ [] ]) p.index ≡ Some a
        → (x : Entity) × (slice_get s.entities p.entity ≡ Some x) × (slice_get x.attributes p.index ≡ Some a)
    by None is at = cc
    by (Some x) is at = (x, is, at)

place-same : (p q : Place) → p.entity ≡ q.entity → p.index ≡ q.index → p ≡ q
place-same p q entity index =
    let f : ℕ → Place = λ v. record { entity = v; index = p.index } in
    let g : ℕ → Place = λ v. record { entity = q.entity; index = v } in
    ap f entity ∙ ap g index

pub outline-tells : (k : SchemaDigest) (s : Schema) → IsOutline k s → TellsPlaces s
outline-tells k s is = record {
  one_entity = λ e f name named named_. one-entity (digest_names k) is.names_distinct e f name
      (entity-at s (digest_names k) (outline-names k s is) e name named)
      (entity-at s (digest_names k) (outline-names k s is) f name named_);
  one_own = own;
}
  where
    own : (e : ℕ) (name : List ℕ) (p q : Place) → IsOwnPlace s e name p → IsOwnPlace s e name q → p ≡ q
    own e name p q (p_of, (a, a_at, a_named)) (q_of, (b, b_at, b_named)) =
        let (x, x_at, x_has) = some-attribute s p a a_at in
        let (y, y_at, y_has) = some-attribute s q b b_at in
        let entities : p.entity ≡ q.entity = p_of ∙ sym q_of in
        let P : ℕ → Type 0 = λ z. slice_get s.entities z ≡ Some y in
        let one : Some y ≡ Some x = sym (subst P (sym entities) y_at) ∙ x_at in
        let Q : Entity → Type 0 = λ z. slice_get z.attributes q.index ≡ Some b in
        let same : y ≡ x = cc in
        let (d, among, outline) = AllZip-second_member (EntityOutline (digest_names k)) k.entities s.entities x is.entities_are
        (Contains-found s.entities p.entity x x_at) in
        place-same p q entities (own-distinct (digest_names k) d x outline p.index q.index a b x_has (subst Q same y_has)
        (a_named ∙ sym b_named))

-- ---- a redeclaration has one place

abbrev place_at : ℕ → ℕ → Place
place_at e j = record { entity = e; index = j }

abbrev places_from : ℕ → ℕ → List Attribute → List Place
places_from e k xs = map (λ p. record { entity = e; index = p.0 }) (enumerate_from k xs)

own_places-has : (e : ℕ) (k : ℕ) (xs : List Attribute) (i : ℕ) (a : Attribute) → slice_get xs i ≡ Some a
    → Contains (places_from e k xs) (place_at e (k + i))
own_places-has e k [] i a at = cc
own_places-has e k (x ∷ xs) zero a at =
    let same : k ≡ k + 0 = omega arith in
    let P : ℕ → Type 0 = λ j. Contains (places_from e k (x ∷ xs)) (place_at e j) in
    subst P same (Contains-first (place_at e k) (places_from e (k + 1) xs))
own_places-has e k (x ∷ xs) (suc i) a at =
    let same : k + 1 + i ≡ k + suc i = omega arith in
    let P : ℕ → Type 0 = λ j. Contains (places_from e k (x ∷ xs)) (place_at e j) in
    subst P same (Contains-later (place_at e k) (places_from e (k + 1) xs) (place_at e (k + 1 + i)) (own_places-has e (k + 1) xs i a at))

-- what an entity declares itself is a place of it
pub own-is_place : (s : Schema) (e : ℕ) (name : List ℕ) (p : Place) → IsOwnPlace s e name p → IsPlaceOf s e name p
own-is_place s e name p (p_of, (a, at, is_named)) =
    let P : ℕ → Type 0 = λ z. slice_get (attributes_of s z) p.index ≡ Some a in
    let own : Contains (own_places s e) (place_at e (0 + p.index)) = own_places-has e 0 (attributes_of s e) p.index a (subst P p_of at) in
    let zero_ : 0 + p.index ≡ p.index = omega arith in
    let f : ℕ → Place = λ i. record { entity = e; index = i } in
    let same : f (0 + p.index) ≡ p = ap f zero_ ∙ place-same (f p.index) p (sym p_of) refl in (
      Contains-flat_map (own_places s) (order s e) e p (order_within-self s (length s.entities) e)
          (subst (Contains (own_places s e)) same own),
      (a, at, is_named),
    )

proper-one : (s : Schema) → TellsPlaces s → (e f g : ℕ) (name : List ℕ) → IsProperSupertype s e f name → IsProperSupertype s e g name
    → f ≡ g
proper-one s tells e f g name is is_ = tells.one_entity f g name is.0 is_.0

abbrev Resolves : Schema → ℕ → List ℕ → Place → Type 0
Resolves s sup name place = IsOwnPlace s sup name place
    ⊎ (((other : Place) → ¬ IsOwnPlace s sup name other) × IsPlaceOf s sup name place
    × ((other : Place) → IsPlaceOf s sup name other → other ≡ place))

resolves-one : (s : Schema) → TellsPlaces s → (sup : ℕ) (name : List ℕ) (p q : Place) → Resolves s sup name p → Resolves s sup name q
    → p ≡ q
resolves-one s tells sup name p q (inl h) (inl k) = tells.one_own sup name p q h k
resolves-one s tells sup name p q (inl h) (inr k) = absurd (k.0 p h)
resolves-one s tells sup name p q (inr h) (inl k) = absurd (h.0 q k)
resolves-one s tells sup name p q (inr h) (inr k) = k.2 p h.1

pub redeclares-one : (s : Schema) → TellsPlaces s → (e : ℕ) (supertype name : List ℕ) (p q : Place) → RedeclaresPlace s e supertype name p
    → RedeclaresPlace s e supertype name q → p ≡ q
redeclares-one s tells e supertype name p q (sup, proper, is) (sup_, proper_, is_) =
    let P : ℕ → Type 0 = λ z. Resolves s z name q in
    resolves-one s tells sup name p q is (subst P (sym (proper-one s tells e sup sup_ supertype proper proper_)) is_)

resolves-place : (s : Schema) (sup : ℕ) (name : List ℕ) (p : Place) → Resolves s sup name p → IsPlaceOf s sup name p
resolves-place s sup name p (inl h) = own-is_place s sup name p h
resolves-place s sup name p (inr h) = h.1

-- it is a place, or there is none
pub redeclares-some : (s : Schema) → TellsPlaces s → (e sup : ℕ) (supertype name : List ℕ) (p : Place)
    → RedeclaresPlace s e supertype name p → IsProperSupertype s e sup supertype → HasNoPlace s sup name → ⊥
redeclares-some s tells e sup supertype name p (sup_, proper_, is_) proper none =
    let P : ℕ → Type 0 = λ z. HasNoPlace s z name in
    subst P (proper-one s tells e sup sup_ supertype proper proper_) none p (resolves-place s sup_ name p is_)

pub derived-one : (s : Schema) → TellsPlaces s → (entities : List EntityDigest) (e : ℕ) (names : List (List ℕ × List ℕ)) (a b : List Place)
    → DigestDerivedAre s entities e names a → DigestDerivedAre s entities e names b → a ≡ b
derived-one s tells entities e _ _ _ no_more no_more = refl
derived-one s tells entities e _ _ _ (a_place supertype name p names found is rest) (a_place _ _ q _ found_ is_ rest_) =
    ap (λ v. v ∷ found) (redeclares-one s tells e supertype name p q is is_)
    ∙ ap (λ vs. q ∷ vs) (derived-one s tells entities e names found found_ rest rest_)
derived-one s tells entities e _ _ _ (a_place supertype name p names found is rest) (no_place _ _ sup _ found_ is_ none derives rest_) =
    absurd (redeclares-some s tells e sup supertype name p is is_ none)
derived-one s tells entities e _ _ _ (no_place supertype name sup names found is none derives rest) (a_place _ _ q _ found_ is_ rest_) =
    absurd (redeclares-some s tells e sup supertype name q is_ is none)
derived-one s tells entities e _ _ _ (no_place supertype name sup names found is none derives rest)
    (no_place _ _ sup_ _ found_ is_ none_ derives_ rest_) = derived-one s tells entities e names found found_ rest rest_

redeclared-one : (s : Schema) → TellsPlaces s → (n : Named) → AreApart n
    → (e : ℕ) (kept : (List ℕ × List ℕ) × Bool × TypeDigest) (a b : Redeclared) → DigestRedeclaredIs s n e kept a
    → DigestRedeclaredIs s n e kept b → a ≡ b
redeclared-one s tells n distinct e kept a b is is_ =
    let f : Place → Redeclared = λ v. record { place = v; optional = a.optional; type = a.type } in
    let g : Bool → Redeclared = λ v. record { place = b.place; optional = v; type = a.type } in
    let h : schema.TypeUse → Redeclared = λ v. record { place = b.place; optional = b.optional; type = v } in
    ap f (redeclares-one s tells e kept.0.0 kept.0.1 a.place b.place is.0 is_.0) ∙ ap g (is.1 ∙ sym is_.1)
    ∙ ap h (type-one n distinct kept.2 a.type b.type is.2 is_.2)

-- ---- one schema

entity-whole : (a b : Entity) → bare_entity a ≡ bare_entity b → a.redeclared ≡ b.redeclared → a.derived ≡ b.derived → a ≡ b
entity-whole a b same redeclared derived =
    let f : Entity → Entity = λ v. record {
      name = v.name;
      is_abstract = v.is_abstract;
      supertypes = v.supertypes;
      attributes =
          v.attributes;
      redeclared = a.redeclared;
      derived = a.derived;
    } in
    let g : List Redeclared → Entity = λ v. record {
      name = b.name;
      is_abstract = b.is_abstract;
      supertypes = b.supertypes;
      attributes =
          b.attributes;
      redeclared = v;
      derived = a.derived;
    } in
    let h : List Place → Entity = λ v. record {
      name = b.name;
      is_abstract = b.is_abstract;
      supertypes = b.supertypes;
      attributes =
          b.attributes;
      redeclared = b.redeclared;
      derived = v;
    } in
    ap f same ∙ ap g redeclared ∙ ap h derived

abbrev WholeIs : Schema → Named → List EntityDigest → ℕ → EntityDigest → Entity → Type 0
WholeIs u n entities e x found = EntityOutline n x found × RedeclarationsAre u n entities e x found

whole-one : (u : Schema) → TellsPlaces u → (n : Named) → AreApart n
    → (entities : List EntityDigest) (e : ℕ) (x : EntityDigest) (a b : Entity) → WholeIs u n entities e x a → WholeIs u n entities e x b
    → a ≡ b
whole-one u tells n distinct entities e x a b is is_ =
    entity-whole a b (entity-one n distinct x a b is.0 is_.0)
    (AllZip-one (DigestRedeclaredIs u n e) (DigestRedeclaredIs u n e) (redeclared-one u tells n distinct e)
    (digest_redeclared_explicit x.explicit) a.redeclared b.redeclared is.1.redeclared_are is_.1.redeclared_are)
    (derived-one u tells entities e (digest_redeclared_names x.derived) a.derived b.derived is.1.derived_are is_.1.derived_are)

bare-outline : (n : Named) (x : EntityDigest) (found : Entity) → EntityOutline n x found → EntityOutline n x (bare_entity found)
bare-outline n x found is = record {
  name_is = is.name_is;
  abstract_is = is.abstract_is;
  supertypes_are =
      is.supertypes_are;
  attributes_are = is.attributes_are;
  supertypes_distinct = is.supertypes_distinct;
  names_distinct =
      is.names_distinct;
}

-- an outline without redeclarations is one too
pub bare-is_outline : (k : SchemaDigest) (s : Schema) → IsOutline k s → IsOutline k (bare s)
bare-is_outline k s is = record {
  name_is = is.name_is;
  entities_are = AllZip-second_mapped (EntityOutline (digest_names k)) bare_entity k.entities s.entities
      (λ x y h. bare-outline (digest_names k) x y h) is.entities_are;
  types_are = is.types_are;
  one_of_are = is.one_of_are;
  names_distinct = is.names_distinct;
}

pub entities-one : (k : SchemaDigest) (s t : Schema) → DeclaredBy k s → DeclaredBy k t → s.entities ≡ t.entities
entities-one k s t by by_ = numbered-one (WholeIs u n k.entities) (WholeIs u n k.entities)
    (whole-one u tells n by.outline.names_distinct k.entities) 0 k.entities s.entities t.entities
    (numbered-both (λ e x found. EntityOutline n x found) (λ e x found. RedeclarationsAre u n k.entities e x found) 0 k.entities s.entities
    (numbered (EntityOutline n) 0 k.entities s.entities by.outline.entities_are)
    (numbered-weaker (RedeclarationsAre s n k.entities) (RedeclarationsAre u n k.entities) 0 k.entities s.entities
    (λ e x found h. let P : Schema → Type 0 = λ v. RedeclarationsAre v n k.entities e x found in
    subst P same (redeclarations-agree s (bare s) (agrees-bare s) n k.entities e x found h)) by.redeclared))
    (numbered-both (λ e x found. EntityOutline n x found) (λ e x found. RedeclarationsAre u n k.entities e x found) 0 k.entities t.entities
    (numbered (EntityOutline n) 0 k.entities t.entities by_.outline.entities_are)
    (numbered-weaker (RedeclarationsAre t n k.entities) (RedeclarationsAre u n k.entities) 0 k.entities t.entities
    (λ e x found h. redeclarations-agree t u (agrees-bare t) n k.entities e x found h) by_.redeclared))
  where
    n : Named
    n = digest_names k

    u : Schema
    u = bare t

    same : bare s ≡ u
    same = outline-one k s t by.outline by_.outline

    tells : TellsPlaces u
    tells = outline-tells k u (bare-is_outline k t by_.outline)

pub schema-one : (k : SchemaDigest) (s t : Schema) → DeclaredBy k s → DeclaredBy k t → s ≡ t
schema-one k s t by by_ =
    let same : bare s ≡ bare t = outline-one k s t by.outline by_.outline in
    let f : Schema → Schema = λ v. record { name = v.name; entities = s.entities; types = v.types; one_of_lists = v.one_of_lists } in
    let g : List Entity → Schema = λ v. record { name = t.name; entities = v; types = t.types; one_of_lists = t.one_of_lists } in
    ap f same ∙ ap g (entities-one k s t by by_)

pub one_schema : OneSchemaDeclared
one_schema text s t declares declares_ =
    let (x, x_text, x_by) = declared-text text s declares in
    let (y, y_text, y_by) = declared-text text t declares_ in
    let P : SchemaDigest → Type 0 = λ k. DeclaredBy k t in
    schema-one (schema_digest x) s t x_by (subst P (one_digest text y x y_text x_text) y_by)
