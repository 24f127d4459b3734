-- The type at a place where entities redeclare it.
use Rattle.std.specs.Prelude.{◌≡◌, ℕ, zero, suc, ◌⊎◌, true, false, List, [], ◌∷◌, codes, Contains, refl}
use Rattle.std.proofs.Common.{arith, inl, inr, subst, ◌∙◌}
use Rattle.p21_spec_schema.specs.Schema as schema
use Rattle.p21_spec_schema.specs.Schema.{Entity, Redeclared, Place}
use Rattle.p21_spec_schema.specs.Supertype.{IsA, itself, above, supertypes_of}
use Rattle.p21_spec_schema.specs.PlaceType.{TypeAt, derived_place, stored_place, two_redeclarations, Redeclares, IsDerivedIn, IsRedeclaredIn, Decides}
use Rattle.p21_spec_basics.proofs.Members.{Each-at, Each-member, Contains-none}
use Rattle.p21_spec_schema.proofs.TestSchemas.{redecl, entity_of, attribute, redeclares_k, k_as, k_place}

not_derived : (entities : List ℕ) → IsDerivedIn redecl entities k_place → ⊥
not_derived entities (e, x, in_set, at, among) =
    let P : List Place → Type 0 = λ ps. Contains ps k_place in
    Contains-none k_place (subst P (Each-at (λ y. y.derived ≡ []) redecl.entities e x (refl, (refl, (refl, tt))) at) among)

-- A alone redeclares the place as an INTEGER, B alone as a REAL
redeclared : (e : ℕ) (r : Redeclared) → Redeclares redecl e r → ((e ≡ 1) × (r ≡ k_as schema.whole)) ⊎ ((e ≡ 2) × (r ≡ k_as schema.real))
redeclared zero r (x, at, among) = let P : Entity → Type 0 = λ y. Contains y.redeclared r in let is : x ≡ entity_of (codes "R") [] (attribute (codes "K") schema.number ∷ []) = cc in absurd (Contains-none r (subst P is among))
redeclared (suc zero) r (x, at, among) = let P : Entity → Type 0 = λ y. Contains y.redeclared r in let is : x ≡ redeclares_k (codes "A") schema.whole = cc in inl (refl, Each-member (λ q. q ≡ k_as schema.whole) (k_as schema.whole ∷ []) r (refl, tt) (subst P is among))
redeclared (suc (suc zero)) r (x, at, among) = let P : Entity → Type 0 = λ y. Contains y.redeclared r in let is : x ≡ redeclares_k (codes "B") schema.real = cc in inr (refl, Each-member (λ q. q ≡ k_as schema.real) (k_as schema.real ∷ []) r (refl, tt) (subst P is among))
redeclared (suc (suc (suc e))) r (x, at, among) = cc

in_a : (entities : List ℕ) → Contains entities 1 → IsRedeclaredIn redecl entities k_place 1 (k_as schema.whole)
in_a entities among = (among, (redeclares_k (codes "A") schema.whole, refl, (0, omega arith, refl)), refl)

in_b : (entities : List ℕ) → Contains entities 2 → IsRedeclaredIn redecl entities k_place 2 (k_as schema.real)
in_b entities among = (among, (redeclares_k (codes "B") schema.real, refl, (0, omega arith, refl)), refl)

-- in an instance of R and A the place of the NUMBER is an INTEGER
pub redecl-type_at_a : TypeAt redecl (0 ∷ 1 ∷ []) k_place (stored_place false schema.whole)
redecl-type_at_a = (not_derived (0 ∷ 1 ∷ []), inl (k_as schema.whole, (1, in_a (0 ∷ 1 ∷ []) (1, omega arith, refl), λ f other found. below f found.0), refl, refl))
  where
    below : (f : ℕ) → Contains (0 ∷ 1 ∷ []) f → IsA redecl 1 f
    below f among = Each-member (IsA redecl 1) (0 ∷ 1 ∷ []) f (above 1 0 0 (0, omega arith, refl) (itself 0), (itself 1, tt)) among

-- an entity is itself or R
pub redecl-is_a : (sub sup : ℕ) → IsA redecl sub sup → (sup ≡ sub) ⊎ (sup ≡ 0)
redecl-is_a sub sup (itself e) = inl refl
redecl-is_a sub sup (above _ next _ among up) = inr (elim (redecl-is_a next sup up) [ inl h ↦ h ∙ parent sub next among | inr h ↦ h ])
  where
    parent : (sub next : ℕ) → Contains (supertypes_of redecl sub) next → next ≡ 0
    parent zero next among = absurd (Contains-none next among)
    parent (suc zero) next among = Each-member (λ f. f ≡ 0) (0 ∷ []) next (refl, tt) among
    parent (suc (suc zero)) next among = Each-member (λ f. f ≡ 0) (0 ∷ []) next (refl, tt) among
    parent (suc (suc (suc e))) next among = absurd (Contains-none next among)

-- in an instance of R, A and B two redeclare it, and neither decides
pub redecl-two : TypeAt redecl (0 ∷ 1 ∷ 2 ∷ []) k_place two_redeclarations
redecl-two = (not_derived (0 ∷ 1 ∷ 2 ∷ []), (1, k_as schema.whole, a_in), neither)
  where
    a_in : IsRedeclaredIn redecl (0 ∷ 1 ∷ 2 ∷ []) k_place 1 (k_as schema.whole)
    a_in = in_a (0 ∷ 1 ∷ 2 ∷ []) (1, omega arith, refl)

    b_in : IsRedeclaredIn redecl (0 ∷ 1 ∷ 2 ∷ []) k_place 2 (k_as schema.real)
    b_in = in_b (0 ∷ 1 ∷ 2 ∷ []) (2, omega arith, refl)

    neither : (r : Redeclared) → Decides redecl (0 ∷ 1 ∷ 2 ∷ []) k_place r → ⊥
    neither r (e, found, below) = elim (redeclared e r found.1) [
      | inl h ↦ elim (redecl-is_a e 2 (below 2 (k_as schema.real) b_in)) [ inl two ↦ omega (arith, two, h.0) | inr two ↦ omega (arith, two) ]
      | inr h ↦ elim (redecl-is_a e 1 (below 1 (k_as schema.whole) a_in)) [ inl one ↦ omega (arith, one, h.0) | inr one ↦ omega (arith, one) ]
    ]

-- A derives the K of R, and B, a subtype of A, redeclares it as an INTEGER: it is derived
abbrev derived_above : schema.Schema
derived_above = record {
  name = codes "S";
  types = [];
  one_of_lists = [];
  entities = entity_of (codes "R") [] (attribute (codes "K") schema.number ∷ [])
      ∷ record { name = codes "A"; is_abstract = false; supertypes = 0 ∷ []; attributes = []; redeclared = []; derived = k_place ∷ [] }
      ∷ record { name = codes "B"; is_abstract = false; supertypes = 1 ∷ []; attributes = []; redeclared = k_as schema.whole ∷ []; derived = [] } ∷ [];
}

pub derived_above-is_derived : TypeAt derived_above (0 ∷ 1 ∷ 2 ∷ []) k_place derived_place
derived_above-is_derived = (1, _, (1, omega arith, refl), refl, (0, omega arith, refl))

-- of two that redeclare it, one a subtype of the other, the subtype decides, OPTIONAL too
abbrev one_below : schema.Schema
one_below = record {
  name = codes "S";
  types = [];
  one_of_lists = [];
  entities = entity_of (codes "R") [] (attribute (codes "K") schema.number ∷ [])
      ∷ redeclares_k (codes "A") schema.whole
      ∷ record { name = codes "B"; is_abstract = false; supertypes = 1 ∷ []; attributes = []; redeclared = record { place = k_place; optional = true; type = schema.real } ∷ []; derived = [] } ∷ [];
}

pub one_below-decides : TypeAt one_below (0 ∷ 1 ∷ 2 ∷ []) k_place (stored_place true schema.real)
one_below-decides = (underived, inl (record { place = k_place; optional = true; type = schema.real }, (2, ((2, omega arith, refl), (_, refl, (0, omega arith, refl)), refl), λ f other found. below f found.0), refl, refl))
  where
    underived : IsDerivedIn one_below (0 ∷ 1 ∷ 2 ∷ []) k_place → ⊥
    underived (e, x, in_set, at, among) = let P : List Place → Type 0 = λ ps. Contains ps k_place in Contains-none k_place (subst P (Each-at (λ y. y.derived ≡ []) one_below.entities e x (refl, (refl, (refl, tt))) at) among)

    below : (f : ℕ) → Contains (0 ∷ 1 ∷ 2 ∷ []) f → IsA one_below 2 f
    below f among = Each-member (IsA one_below 2) (0 ∷ 1 ∷ 2 ∷ []) f (above 2 1 0 (0, omega arith, refl) (above 1 0 0 (0, omega arith, refl) (itself 0)), (above 2 1 1 (0, omega arith, refl) (itself 1), (itself 2, tt))) among
