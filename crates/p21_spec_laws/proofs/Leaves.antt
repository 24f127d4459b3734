-- A closed set with one leaf is that leaf's closure, and whether a set has one leaf is decided.
use Rattle.std.specs.Prelude.{◌≡◌, ◌≢◌, ◌↔◌, ℕ, zero, suc, ◌+◌, ◌<◌, ◌≤◌, List, [], ◌∷◌, length, Contains, ◌⊎◌, refl}
use Rattle.std.proofs.Common.{arith, sym, subst, ap, ◌∙◌, inl, inr}
use Rattle.std.proofs.lemmas.Bool.{cases_eq}
use Rattle.p21_spec_schema.specs.WellFormed.{IsWellFormed}
use Rattle.p21_spec_basics.proofs.Members.{Contains-none, Contains-first, Contains-later, Contains-cases}
use Rattle.p21_spec_schema.proofs.Orders.{order-has, order_within-only}
use Rattle.p21_spec_file.specs.CanonicalRecord.{HasOneLeaf}
use Rattle.p21_spec_schema.specs.Order.{order}
use Rattle.p21_spec_schema.specs.Schema.{Schema}
use Rattle.p21_spec_schema.specs.Supertype.{IsA, itself, above, InClosure, IsLeaf}
use Rattle.p21_spec_schema.proofs.PlaceTypes.{IsA-transitive}

decide-member : (xs : List ℕ) (e : ℕ) → Contains xs e ⊎ ¬ Contains xs e
decide-member [] e = inr (Contains-none e)
decide-member (x ∷ xs) e = elim (cases_eq x e) [
  | inl h ↦ inl (0, omega arith, h)
  | inr h ↦ elim (decide-member xs e) [ inl more ↦ inl (Contains-later x xs e more) | inr none ↦ inr (λ among. elim (Contains-cases x xs e among) [ inl is ↦ h is | inr more ↦ none more ]) ]
]

decide-is_a : (s : Schema) → IsWellFormed s → (f e : ℕ) → IsA s f e ⊎ ¬ IsA s f e
decide-is_a s formed f e = elim (decide-member (order s f) e) [
  | inl h ↦ inl (order_within-only s (length s.entities) f e h)
  | inr h ↦ inr (λ is. h (order-has s formed.supertypes_are formed.supertypes_end f e is))
]

rank-falls : (s : Schema) → (formed : IsWellFormed s) → (f e : ℕ) → IsA s f e → formed.supertypes_end.0 e ≤ formed.supertypes_end.0 f
rank-falls s formed f e (itself _) = omega arith
rank-falls s formed f e (above _ next _ up more) = let a = formed.supertypes_end.1 f next up in let b = rank-falls s formed next e more in omega (arith, a, b)

rank-below : (s : Schema) → (formed : IsWellFormed s) → (f e : ℕ) → IsA s f e → f ≢ e → formed.supertypes_end.0 e < formed.supertypes_end.0 f
rank-below s formed f e (itself _) other = absurd (other refl)
rank-below s formed f e (above _ next _ up more) other = let a = formed.supertypes_end.1 f next up in let b = rank-falls s formed next e more in omega (arith, a, b)

is_a-both : (s : Schema) → IsWellFormed s → (f e : ℕ) → IsA s f e → IsA s e f → f ≡ e
is_a-both s formed f e first second = elim (cases_eq f e) [
  | inl h ↦ h
  | inr h ↦ absurd (let a = rank-below s formed f e first h in let b = rank-falls s formed e f second in omega (arith, a, b))
]

-- a member of some entities that is another subtype, or none
find-subtype : (s : Schema) → IsWellFormed s → (e : ℕ) (xs : List ℕ) → ((f : ℕ) × Contains xs f × IsA s f e × (f ≢ e)) ⊎ ((f : ℕ) → Contains xs f → IsA s f e → f ≡ e)
find-subtype s formed e [] = inr (λ f among. absurd (Contains-none f among))
find-subtype s formed e (x ∷ xs) = elim (find-subtype s formed e xs) [
  | inl h ↦ inl (h.0, Contains-later x xs h.0 h.1, h.2, h.3)
  | inr none ↦ elim (cases_eq x e) [
    | inl same ↦ inr (λ f among is. elim (Contains-cases x xs f among) [ inl h ↦ sym h ∙ same | inr h ↦ none f h is ])
    | inr other ↦ elim (decide-is_a s formed x e) [
      | inl is ↦ inl (x, Contains-first x xs, is, other)
      | inr not_ ↦ inr (λ f among is. elim (Contains-cases x xs f among) [ inl h ↦ (let P : ℕ → Type 0 = λ y. IsA s y e in absurd (not_ (subst P (sym h) is))) | inr h ↦ none f h is ])
    ]
  ]
]

decide-leaf : (s : Schema) → IsWellFormed s → (entities : List ℕ) (e : ℕ) → Contains entities e → IsLeaf s entities e ⊎ ¬ IsLeaf s entities e
decide-leaf s formed entities e among = elim (find-subtype s formed e entities) [
  | inl h ↦ inr (λ leaf. h.3 (leaf.1 h.0 h.1 h.2))
  | inr none ↦ inl (among, none)
]

-- ranks of members have a bound
abbrev total : (ℕ → ℕ) → List ℕ → ℕ
total rank [] = 0
total rank (x ∷ xs) = rank x + total rank xs

below-total : (rank : ℕ → ℕ) (xs : List ℕ) (e : ℕ) → Contains xs e → rank e ≤ total rank xs
below-total rank [] e among = absurd (Contains-none e among)
below-total rank (x ∷ xs) e among = elim (Contains-cases x xs e among) [
  | inl h ↦ (let same : rank x ≡ rank e = ap rank h in omega (arith, same))
  | inr h ↦ (let more = below-total rank xs e h in omega (arith, more))
]

-- each member has a leaf among its subtypes
climb : (s : Schema) → (formed : IsWellFormed s) → (entities : List ℕ) (n e : ℕ) → Contains entities e → total formed.supertypes_end.0 entities < formed.supertypes_end.0 e + n → (l : ℕ) × IsLeaf s entities l × IsA s l e
climb s formed entities zero e among high = absurd (let a = below-total formed.supertypes_end.0 entities e among in omega (arith, a, high))
climb s formed entities (suc n) e among high = elim (find-subtype s formed e entities) [
  | inr none ↦ (e, (among, none), itself e)
  | inl (f, found, is, other) ↦
      let more = climb s formed entities n f found (let a = rank-below s formed f e is other in omega (arith, a, high)) in
      (more.0, more.1, IsA-transitive s more.0 f e more.2 is)
]

-- a closed set with one leaf is its closure
pub leaf-closure : (s : Schema) → IsWellFormed s → (entities : List ℕ) → ((f : ℕ) → InClosure s entities f → Contains entities f) → (leaf : HasOneLeaf s entities) → (f : ℕ) → Contains entities f ↔ IsA s leaf.0 f
leaf-closure s formed entities closed leaf f = (forth, λ is. closed f (leaf.0, leaf.1.0, is))
  where
    forth : Contains entities f → IsA s leaf.0 f
    forth among =
        let top : ℕ = total formed.supertypes_end.0 entities in
        let (l, is_leaf, is) = climb s formed entities (suc top) f among (omega arith) in
        let P : ℕ → Type 0 = λ x. IsA s x f in
        subst P (leaf.2 l is_leaf) is

-- the closure of an entity has that one leaf
pub closure-leaf : (s : Schema) → IsWellFormed s → (entities : List ℕ) (e : ℕ) → ((f : ℕ) → Contains entities f ↔ IsA s e f) → HasOneLeaf s entities
closure-leaf s formed entities e closure =
    (e, ((closure e).1 (itself e), λ f among is. is_a-both s formed f e is ((closure f).0 among)), λ l leaf. sym (leaf.1 e ((closure e).1 (itself e)) ((closure l).0 leaf.0)))

first-leaf : (s : Schema) → IsWellFormed s → (entities xs : List ℕ) → ((x : ℕ) → Contains xs x → Contains entities x) → ((l : ℕ) × IsLeaf s entities l) ⊎ ((l : ℕ) → Contains xs l → ¬ IsLeaf s entities l)
first-leaf s formed entities [] within = inr (λ l among. absurd (Contains-none l among))
first-leaf s formed entities (x ∷ xs) within = elim (decide-leaf s formed entities x (within x (Contains-first x xs))) [
  | inl leaf ↦ inl (x, leaf)
  | inr not_ ↦ elim (first-leaf s formed entities xs (λ y among. within y (Contains-later x xs y among))) [
    | inl h ↦ inl h
    | inr none ↦ inr (λ l among leaf. elim (Contains-cases x xs l among) [ inl h ↦ not_ (let P : ℕ → Type 0 = λ y. IsLeaf s entities y in subst P (sym h) leaf) | inr h ↦ none l h leaf ])
  ]
]

other-leaf : (s : Schema) → IsWellFormed s → (entities : List ℕ) (leaf : ℕ) (xs : List ℕ) → ((x : ℕ) → Contains xs x → Contains entities x) → ((l : ℕ) × IsLeaf s entities l × (l ≢ leaf)) ⊎ ((l : ℕ) → Contains xs l → IsLeaf s entities l → l ≡ leaf)
other-leaf s formed entities leaf [] within = inr (λ l among. absurd (Contains-none l among))
other-leaf s formed entities leaf (x ∷ xs) within = elim (other-leaf s formed entities leaf xs (λ y among. within y (Contains-later x xs y among))) [
  | inl h ↦ inl h
  | inr none ↦ elim (cases_eq x leaf) [
    | inl same ↦ inr (λ l among is. elim (Contains-cases x xs l among) [ inl h ↦ sym h ∙ same | inr h ↦ none l h is ])
    | inr other ↦ elim (decide-leaf s formed entities x (within x (Contains-first x xs))) [
      | inl is ↦ inl (x, is, other)
      | inr not_ ↦ inr (λ l among is. elim (Contains-cases x xs l among) [ inl h ↦ absurd (not_ (let P : ℕ → Type 0 = λ y. IsLeaf s entities y in subst P (sym h) is)) | inr h ↦ none l h is ])
    ]
  ]
]

-- whether a set has one leaf
pub decide-one_leaf : (s : Schema) → IsWellFormed s → (entities : List ℕ) → HasOneLeaf s entities ⊎ ¬ HasOneLeaf s entities
decide-one_leaf s formed entities = elim (first-leaf s formed entities entities (λ x among. among)) [
  | inr none ↦ inr (λ one. none one.0 one.1.0 one.1)
  | inl (l, leaf) ↦ elim (other-leaf s formed entities l entities (λ x among. among)) [
    | inl (k, is, other) ↦ inr (λ one. other (one.2 k is ∙ sym (one.2 l leaf)))
    | inr same ↦ inl (l, leaf, λ f is. same f is.0 is)
  ]
]
