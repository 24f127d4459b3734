-- Orders, places and leaves of small schemas, and the places that redeclarations stand for.
use Rattle.std.specs.Prelude.{◌≡◌, ℕ, zero, suc, ◌≤◌, ◌⊎◌, List, [], ◌∷◌, map, codes, Some, None, Contains, refl, slice_get}
use Rattle.std.proofs.Common.{arith, inl, inr, ap, sym, subst, ◌∙◌}
use Rattle.p21_spec_schema.specs.Schema as schema
use Rattle.p21_spec_schema.specs.Schema.{Schema, Place, Attribute, PlaceNamed, attributes_of, attribute_at}
use Rattle.p21_spec_schema.specs.Supertype.{IsA, itself, above, supertypes_of, AreLeaves, leaf_next, other_next, no_more}
use Rattle.p21_spec_schema.specs.Order.{order, places}
use Rattle.p21_spec_schema.specs.Redeclaration.{IsProperSupertype, IsOwnPlace, IsPlaceOf, RedeclaresPlace}
use Rattle.p21_spec_basics.proofs.Members.{Each-at, Each-member, Contains-none}
use Rattle.p21_spec_schema.proofs.TestSchemas.{diamond, demo, point, attribute, label, label_place, x_place, y_place}

-- the entities of a diamond in turn, each once
pub diamond-order : order diamond 3 ≡ 0 ∷ 1 ∷ 2 ∷ 3 ∷ []
diamond-order = refl

abbrev place_names : Schema → ℕ → List (List ℕ)
place_names s e = map (λ p. elim (attribute_at s p) [ Some a ↦ a.name | None ↦ [] ]) (places s e)

pub diamond-places : place_names diamond 3 ≡ codes "K" ∷ codes "P" ∷ codes "Q" ∷ codes "Z" ∷ []
diamond-places = refl

pub demo-order : order demo 3 ≡ 0 ∷ 1 ∷ 3 ∷ []
demo-order = refl

-- a place that ORIGIN derives is still one of its places
pub origin-places : place_names demo 3 ≡ codes "LABEL" ∷ codes "X" ∷ codes "Y" ∷ []
origin-places = refl

pub point-is_shape : IsA demo 1 0
point-is_shape = above 1 0 0 (0, omega arith, refl) (itself 0)

-- what SHAPE, POINT and MARKED are
pub demo-is_a : (sub sup : ℕ) → sub ≤ 2 → IsA demo sub sup → (sup ≡ sub) ⊎ (sup ≡ 0)
demo-is_a sub sup low (itself e) = inl refl
demo-is_a sub sup low (above _ next _ among up) = inr (top next sup (parent sub next low among) up)
  where
    parent : (sub next : ℕ) → sub ≤ 2 → Contains (supertypes_of demo sub) next → next ≡ 0
    parent zero next low among = absurd (Contains-none next among)
    parent (suc zero) next low among = Each-member (λ f. f ≡ 0) (0 ∷ []) next (refl, tt) among
    parent (suc (suc zero)) next low among = Each-member (λ f. f ≡ 0) (0 ∷ []) next (refl, tt) among
    parent (suc (suc (suc e))) next low among = absurd (omega (arith, low))

    top : (e sup : ℕ) → e ≡ 0 → IsA demo e sup → sup ≡ 0
    top e sup is (itself _) = is
    top e sup is (above _ next _ among up) = let P : ℕ → Type 0 = λ f. Contains (supertypes_of demo f) next in absurd (Contains-none next (subst P is among))

-- of SHAPE, POINT and MARKED the leaves are POINT and MARKED
pub demo-leaves : AreLeaves demo (0 ∷ 1 ∷ 2 ∷ []) (1 ∷ 2 ∷ [])
demo-leaves = other_next 0 (1 ∷ 2 ∷ []) (1 ∷ 2 ∷ []) (λ leaf. let h : 1 ≡ 0 = leaf.1 1 (1, omega arith, refl) point-is_shape in omega (arith, h))
    (leaf_next 1 (2 ∷ []) (2 ∷ []) ((1, omega arith, refl), λ f among is. only f 1 (omega arith) among is) (leaf_next 2 [] [] ((2, omega arith, refl), λ f among is. only f 2 (omega arith) among is) no_more))
  where
    only : (f e : ℕ) → 1 ≤ e → Contains (0 ∷ 1 ∷ 2 ∷ []) f → IsA demo f e → f ≡ e
    only f e some among is = elim (demo-is_a f e (Each-member (λ g. g ≤ 2) (0 ∷ 1 ∷ 2 ∷ []) f (omega arith, (omega arith, (omega arith, tt))) among) is) [ inl h ↦ sym h | inr h ↦ absurd (omega (arith, h, some)) ]

origin-below_point : IsProperSupertype demo 3 1 (codes "POINT")
origin-below_point = ((point, refl, refl), above 3 1 1 (0, omega arith, refl) (itself 1), omega arith)

-- in ORIGIN, `SELF\point.x` stands for the place that POINT declares
pub self_x : RedeclaresPlace demo 3 (codes "POINT") (codes "X") x_place
self_x = (1, origin-below_point, inl (refl, (attribute (codes "X") (schema.defined 0), refl, refl)))

differ : (a b : Attribute) → Some a ≡ Some b → (a.name ≡ codes "LABEL" → ⊥) → b.name ≡ codes "LABEL" → ⊥
differ a b same other named = let is : a ≡ b = cc in other (ap (λ x. x.name) is ∙ named)

no_label : (place : Place) (a : Attribute) → attribute_at demo place ≡ Some a → (a.name ≡ codes "LABEL" → ⊥) → PlaceNamed demo place (codes "LABEL") → ⊥
no_label place a at other (b, at_, named) = differ a b (sym at ∙ at_) other named

-- and `SELF\point.label` for the only place of that name in the order of POINT
pub self_label : RedeclaresPlace demo 3 (codes "POINT") (codes "LABEL") label_place
self_label = (1, origin-below_point, inr (no_own, ((0, omega arith, refl), (label, refl, refl)), only))
  where
    no_own : (other : Place) → IsOwnPlace demo 1 (codes "LABEL") other → ⊥
    no_own other (entity_is, (a, at, named)) =
        let P : ℕ → Type 0 = λ e. slice_get (attributes_of demo e) other.index ≡ Some a in
        Each-at (λ b. b.name ≡ codes "LABEL" → ⊥) (attributes_of demo 1) other.index a (λ h. cc, (λ h. cc, tt)) (subst P entity_is at) named

    only : (other : Place) → IsPlaceOf demo 1 (codes "LABEL") other → other ≡ label_place
    only other (among, found) = Each-member (λ place. PlaceNamed demo place (codes "LABEL") → place ≡ label_place) (label_place ∷ x_place ∷ y_place ∷ []) other (
      λ h. refl,
      (
        λ h. absurd (no_label x_place (attribute (codes "X") (schema.defined 0)) refl (λ k. cc) h),
        (λ h. absurd (no_label y_place (attribute (codes "Y") (schema.defined 0)) refl (λ k. cc) h), tt),
      ),
    ) among found
