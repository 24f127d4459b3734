-- The pairs of all instances that hang together at once.
use Rattle.std.specs.Prelude.{◌≡◌, ℕ, ◌<◌, List, [], ◌∷◌, Option, Some, None, map, length, Contains, refl}
use Rattle.std.specs.BTreeMap.{BTreeMap, get}
use Rattle.std.specs.List.{flat_map, range_with_len}
use Rattle.std.specs.Ordering.{nat_cmp}
use Rattle.std.proofs.Common.{arith, ap, sym, subst, ◌∙◌, inl, inr}
use Rattle.std.proofs.lemmas.List.{get_or-map, length-map}
use Rattle.std.proofs.lemmas.List.Elements.{Contains-get_or}
use Rattle.p21_spec_basics.proofs.Members.{Contains-none, Contains-first, Contains-cases, Contains-flat_map, Contains-mapped, Contains-one_of}
use Rattle.p21_spec_basics.proofs.Shuffles.{NoneTwice}
use Rattle.p21_numbering.specs.Edges.{FindsNames}
use Rattle.p21_numbering.specs.Nodes.{Node, name_at, no_node}
use Rattle.p21_numbering.specs.Ordering.{named_node, pair_of, pair_to, pairs_from}
use Rattle.p21_numbering.specs.Ranked.{Ranked, name_of, names_of, no_instance, ranked_at}
use Rattle.p21_numbering.proofs.Counts.{Contains-range, range-below}
use Rattle.p21_numbering.proofs.Decisions.{ArePairs, once-at}

module _ (all : List Ranked) (found : BTreeMap ℕ ℕ) (finds : FindsNames found (map named_node all)) (pairs : List (ℕ × ℕ))
    (is : pairs ≡ flat_map (pairs_from found all) (range_with_len 0 (length all))) where
  long : length (map named_node all) ≡ length all
  long = length-map all named_node

  named : (k : ℕ) → k < length all → name_at (map named_node all) k ≡ name_of all k
  named k low = ap (λ (n : Node). n.name) (get_or-map named_node all k no_instance no_node low)

  abbrev IsSound : ℕ × ℕ → Type 0
  IsSound p = (p.0 < length all) × (p.1 < length all) × Contains (ranked_at all p.0).beside (name_of all p.1)

  one : (k t : ℕ) (p : ℕ × ℕ) → k < length all → Contains (ranked_at all k).beside t → (o : Option ℕ) → get nat_cmp found t ≡ o
      → Contains (pair_to k o) p → IsSound p
  one k t p low inside None at among = absurd (Contains-none p among)
  one k t p low inside (Some other) at among = elim (Contains-cases (k, other) [] p among) [
    | inl same ↦
        let (low_, leads) = finds.right t other at in
        let below : other < length all = omega (arith, low_, long) in
        let P : ℕ → Type 0 = λ n. Contains (ranked_at all k).beside n in
        let sound_ : IsSound (k, other) = (low, below, subst P (sym leads ∙ named other below) inside) in
        subst IsSound same sound_
    | inr more ↦ absurd (Contains-none p more)
  ]

  pub pairs-sound : (p : ℕ × ℕ) → Contains pairs p → IsSound p
  pairs-sound p among =
      let P : List (ℕ × ℕ) → Type 0 = λ ps. Contains ps p in
      let (k, at, from) = Contains-one_of (pairs_from found all) (range_with_len 0 (length all)) p (subst P is among) in
      let (t, inside, pair) = Contains-one_of (pair_of found k) (ranked_at all k).beside p from in
      one k t p (range-below (length all) k at) inside (get nat_cmp found t) refl pair

  to : NoneTwice (names_of all) → (j k : ℕ) → k < length all → (o : Option ℕ) → get nat_cmp found (name_of all k) ≡ o
      → Contains (pair_to j o) (j, k)
  to own j k low None at =
      absurd (finds.all (name_of all k) at (Contains-mapped (λ (n : Node). n.name) (map named_node all) (named_node (ranked_at all k))
      (Contains-mapped named_node all (ranked_at all k) (Contains-get_or all k no_instance low))))
  to own j k low (Some other) at =
      let (low_, leads) = finds.right (name_of all k) other at in
      let below : other < length all = omega (arith, low_, long) in
      let same : other ≡ k = once-at (λ (r : Ranked). r.name) no_instance all own other k below low (sym (named other below) ∙ leads) in
      let P : ℕ → Type 0 = λ i. Contains {X = ℕ × ℕ} ((j, other) ∷ []) (j, i) in
      subst P same (Contains-first (j, other) [])

  pub pairs-are : NoneTwice (names_of all) → ArePairs all pairs
  pairs-are own = record { sound = pairs-sound; complete = complete }
    where
      complete : (j k : ℕ) → j < length all → k < length all → Contains (ranked_at all j).beside (name_of all k) → Contains pairs (j, k)
      complete j k low low_ beside =
          let P : List (ℕ × ℕ) → Type 0 = λ ps. Contains ps (j, k) in
          subst P (sym is) (Contains-flat_map (pairs_from found all) (range_with_len 0 (length all)) j (j, k)
          (Contains-range (length all) j low)
          (Contains-flat_map (pair_of found j) (ranked_at all j).beside (name_of all k) (j, k) beside
          (to own j k low_ (get nat_cmp found (name_of all k)) refl)))
