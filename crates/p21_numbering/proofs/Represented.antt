-- Edges of arrays stand for a graph.
use Rattle.std.specs.Prelude.{◌≡◌, ℕ, ◌<◌, Bool, true, false, List, [], ◌∷◌, ◌++◌, map, filter, nat_eq, Contains, if◌then◌else◌, refl}
use Rattle.std.specs.List.{flat_map, range_with_len}
use Rattle.std.proofs.Common.{ap, sym, subst, ◌∙◌, inl, inr}
use Rattle.std.proofs.lemmas.Bool.{eqb-true, eq-eqb}
use Rattle.std.proofs.lemmas.List.Elements.{Contains-append_cases}
use Rattle.p21_spec_basics.proofs.Members.{Contains-first, Contains-later, Contains-mapped, Contains-unmapped, Contains-filter, Contains-unfiltered, Contains-flat_map, Contains-one_of}
use Rattle.p21_spec_basics.proofs.Shuffles.{AreMembers, NoneTwice, Shuffled}
use Rattle.p21_spec_numbering.proofs.Lists.{members-shuffled}
use Rattle.p21_spec_numbering.proofs.Uses.{passes}
use Rattle.p21_numbering.specs.Arrays.{Use, Edge, PlacedUse, placed, beside, other_end}
use Rattle.p21_numbering.proofs.Counts.{Contains-range, range-below, range-none_twice}

-- ---- lists with nothing twice

pub NoneTwice-filter : {X : Type 0} (p : X → Bool) (xs : List X) → NoneTwice xs → NoneTwice (filter p xs)
NoneTwice-filter p [] none = tt
NoneTwice-filter {X} p (x ∷ xs) none = by_test (p x) (NoneTwice-filter p xs none.1)
  where
    by_test : (b : Bool) → NoneTwice (filter p xs) → NoneTwice (if b then x ∷ filter p xs else filter p xs)
    by_test true rest = (λ among. none.0 (Contains-unfiltered p xs x among), rest)
    by_test false rest = rest

pub NoneTwice-mapped : {X Y : Type 0} (f : X → Y) (xs : List X) → ((x y : X) → Contains xs x → Contains xs y → f x ≡ f y → x ≡ y)
    → NoneTwice xs → NoneTwice (map f xs)
NoneTwice-mapped f [] apart none = tt
NoneTwice-mapped {X} f (x ∷ xs) apart none = (
  λ among. let (y, at, is) = Contains-unmapped f xs (f x) among in
      let P : X → Type 0 = λ z. Contains xs z in
      none.0 (subst P (apart y x (Contains-later x xs y at) (Contains-first x xs) is) at),
  NoneTwice-mapped f xs (λ y z at at_ same. apart y z (Contains-later x xs y at) (Contains-later x xs z at_) same) none.1,
)

NoneTwice-joined : {X : Type 0} (xs ys : List X) → NoneTwice xs → NoneTwice ys → ((x : X) → Contains xs x → Contains ys x → ⊥)
    → NoneTwice (xs ++ ys)
NoneTwice-joined [] ys none none_ apart = none_
NoneTwice-joined {X} (x ∷ xs) ys none none_ apart = (
  λ among. elim (Contains-append_cases xs ys x among) [ inl h ↦ none.0 h | inr h ↦ apart x (Contains-first x xs) h ],
  NoneTwice-joined xs ys none.1 none_ (λ y at at_. apart y (Contains-later x xs y at) at_),
)

-- beside different nodes stand different uses
pub NoneTwice-beside : (at : ℕ → List (List ℕ)) (nodes : List ℕ) → NoneTwice nodes → ((m : ℕ) → Contains nodes m → NoneTwice (at m))
    → NoneTwice (flat_map (λ m. map (beside m) (at m)) nodes)
NoneTwice-beside at [] none each = tt
NoneTwice-beside at (m ∷ nodes) none each =
    NoneTwice-joined (map (beside m) (at m)) (flat_map (λ k. map (beside k) (at k)) nodes)
    (NoneTwice-mapped (beside m) (at m) (λ p q h h_ same. ap (λ (u : PlacedUse). u.1) same) (each m (Contains-first m nodes)))
    (NoneTwice-beside at nodes none.1 (λ k h. each k (Contains-later m nodes k h)))
    (λ u h h_. let (p, at_p, is) = Contains-unmapped (beside m) (at m) u h in
    let (k, among, inside) = Contains-one_of (λ k. map (beside k) (at k)) nodes u h_ in
    let (q, at_q, is_) = Contains-unmapped (beside k) (at k) u inside in
    let P : ℕ → Type 0 = λ j. Contains nodes j in
    none.0 (subst P (ap (λ (v : PlacedUse). v.0) (is_ ∙ sym is)) among))

-- ---- the edges of one node

module _ (place : ℕ → List ℕ) (number : List ℕ → ℕ) (count n : ℕ) (edges : List Edge) (at : ℕ → List (List ℕ)) where
  abbrev pub own : List Edge
  own = filter (λ (e : Edge). nat_eq e.0 n) edges

  -- each place at another node has an edge, and each edge has one
  pub record HasEdges : Type 0 where
    pub once : NoneTwice edges
    pub at_once : (m : ℕ) → m < count → NoneTwice (at m)
    pub sound : (m i : ℕ) → Contains edges (n, m, i) → (m < count) × Contains (at m) (place i) × (number (place i) ≡ i)
    pub complete : (m : ℕ) (q : List ℕ) → m < count → Contains (at m) q → Contains edges (n, m, number q) × (place (number q) ≡ q)

  pub edges-stand : HasEdges → Shuffled (map (placed place) (map other_end own))
      (flat_map (λ m. map (beside m) (at m)) (range_with_len 0 count))
  edges-stand has =
      members-shuffled (map (placed place) (map other_end own)) (flat_map (λ m. map (beside m) (at m)) (range_with_len 0 count))
      (NoneTwice-mapped (placed place) (map other_end own) apart
      (NoneTwice-mapped other_end own ends-apart (NoneTwice-filter (λ (e : Edge). nat_eq e.0 n) edges has.once)))
      (NoneTwice-beside at (range_with_len 0 count) (range-none_twice count) (λ m among. has.at_once m (range-below count m among)))
      to back
    where
      -- an own edge by its end
      own-edge : (e : Edge) → Contains own e → Contains edges (n, e.1, e.2)
      own-edge e among =
          let same : e.0 ≡ n = eqb-true e.0 n (passes (λ (f : Edge). nat_eq f.0 n) edges e among) in
          let P : ℕ → Type 0 = λ k. Contains edges (k, e.1, e.2) in
          subst P same (Contains-unfiltered (λ (f : Edge). nat_eq f.0 n) edges e among)

      ends-apart : (e f : Edge) → Contains own e → Contains own f → other_end e ≡ other_end f → e ≡ f
      ends-apart e f among among_ same =
          let first : e.0 ≡ f.0 = eqb-true e.0 n (passes (λ (d : Edge). nat_eq d.0 n) edges e among)
          ∙ sym (eqb-true f.0 n (passes (λ (d : Edge). nat_eq d.0 n) edges f among_)) in
          ap (λ k. (k, e.1, e.2)) first ∙ ap (λ (u : Use). (f.0, u.0, u.1)) same

      apart : (u v : Use) → Contains (map other_end own) u → Contains (map other_end own) v → placed place u ≡ placed place v → u ≡ v
      apart u v among among_ same =
          let (e, at_e, is) = Contains-unmapped other_end own u among in
          let (f, at_f, is_) = Contains-unmapped other_end own v among_ in
          let here = (has.sound e.1 e.2 (own-edge e at_e)).2 in
          let there = (has.sound f.1 f.2 (own-edge f at_f)).2 in
          let second : u.1 ≡ v.1 = ap (λ (w : Use). w.1) (sym is) ∙ sym here ∙ ap (λ (w : Use). number (place w.1)) is
          ∙ ap (λ (w : PlacedUse). number w.1) same ∙ ap (λ (w : Use). number (place w.1)) (sym is_) ∙ there
          ∙ ap (λ (w : Use). w.1) is_ in
          ap (λ k. (k, u.1)) (ap (λ (w : PlacedUse). w.0) same) ∙ ap (λ k. (v.0, k)) second

      to : AreMembers (map (placed place) (map other_end own)) (flat_map (λ m. map (beside m) (at m)) (range_with_len 0 count))
      to x among =
          let (u, at_u, is) = Contains-unmapped (placed place) (map other_end own) x among in
          let (e, at_e, is_) = Contains-unmapped other_end own u at_u in
          let (low, found, same) = has.sound e.1 e.2 (own-edge e at_e) in
          let P : PlacedUse → Type 0 = λ y. Contains (flat_map (λ m. map (beside m) (at m)) (range_with_len 0 count)) y in
          subst P (ap (placed place) is_ ∙ is) (Contains-flat_map (λ m. map (beside m) (at m)) (range_with_len 0 count) e.1 (e.1, place e.2)
          (Contains-range count e.1 low) (Contains-mapped (beside e.1) (at e.1) (place e.2) found))

      back : AreMembers (flat_map (λ m. map (beside m) (at m)) (range_with_len 0 count)) (map (placed place) (map other_end own))
      back x among =
          let (m, at_m, inside) = Contains-one_of (λ m. map (beside m) (at m)) (range_with_len 0 count) x among in
          let (q, at_q, is) = Contains-unmapped (beside m) (at m) x inside in
          let (edge, same) = has.complete m q (range-below count m at_m) at_q in
          let kept : Contains own (n, m, number q) = Contains-filter (λ (e : Edge). nat_eq e.0 n) edges (n, m, number q) (eq-eqb n n refl)
          edge in
          let P : PlacedUse → Type 0 = λ y. Contains (map (placed place) (map other_end own)) y in
          subst P (ap (λ (p : List ℕ). (m, p)) same ∙ is) (Contains-mapped (placed place) (map other_end own) (m, number q)
          (Contains-mapped other_end own (n, m, number q) kept))
