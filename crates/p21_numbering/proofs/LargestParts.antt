-- The largest part of a cell.
use Rattle.std.specs.Prelude.{◌≡◌, ◌≢◌, ◌⊎◌, ℕ, ◌+◌, ◌<◌, Bool, true, false, List, length, Contains, nat_eq, ltb, leb, ◌&&◌, ◌||◌, slice_set, if◌then◌else◌, refl}
use Rattle.std.specs.List.{range_with_len}
use Rattle.std.proofs.Common.{arith, ap, sym, subst, ◌∙◌, inl, inr}
use Rattle.std.proofs.lemmas.Bool.Decides.{nat_tests}
use Rattle.std.proofs.lemmas.List.{get_or-set_same, get_or-set_other}
use Rattle.p21_spec_numbering.specs.Graph.{Graph, how_many}
use Rattle.p21_spec_numbering.specs.Fresh.{size, is_largest}
use Rattle.p21_numbering.specs.Arrays.{rank_at}
use Rattle.p21_numbering.specs.Largest.{AreSizes, IsLargestAmong, beats}
use Rattle.p21_numbering.proofs.Counts.{Contains-range, range-below, none-counted, some-counted}
use Rattle.p21_spec_numbering.proofs.Lists.{count-agree}

abbrev better : ℕ → ℕ → ℕ → ℕ → Bool
better s t x y = ltb t s || (nat_eq s t && ltb x y)

better-itself : (s x : ℕ) → better s s x x ≡ false
better-itself s x = grind (arith, nat_tests)

better-through : (s t u x y z : ℕ) → better t u y z ≡ true → better s u x z ≡ false → better s t x y ≡ false
better-through s t u x y z h k = grind (arith, nat_tests)

better-apart : (s t x y : ℕ) → better s t x y ≡ false → x ≢ y → better t s y x ≡ true
better-apart s t x y h differ = by_test (nat_eq x y) refl
  where
    by_test : (b : Bool) → nat_eq x y ≡ b → better t s y x ≡ true
    by_test true e = absurd (differ (let same : x ≡ y = grind (arith, nat_tests) in same))
    by_test false e = grind (arith, nat_tests)

module _ (count n : ℕ) (old new sizes : List ℕ) where
  -- the best of one part more
  abbrev next_best : ℕ → ℕ
  next_best best = if (leb count best || beats sizes (rank_at new n) best) then rank_at new n else best

  own-more : (o best : ℕ) → rank_at new n < count → rank_at old n ≡ o → IsLargestAmong count n old new sizes o best
      → IsLargestAmong count (n + 1) old new sizes o (next_best best)
  own-more o best small own is = by_test (leb count best || beats sizes (rank_at new n) best) refl
    where
      part : ℕ
      part = rank_at new n

      cases : (m : ℕ) → m < n + 1 → (m < n) ⊎ (m ≡ n)
      cases m low = grind arith

      by_test : (b : Bool) → (leb count best || beats sizes (rank_at new n) best) ≡ b
          → IsLargestAmong count (n + 1) old new sizes o (if b then rank_at new n else best)
      by_test true e = record {
        found = λ m low own_. small;
        unbeaten = λ m low own_. elim (cases m low) [
          | inl before ↦ (let low_best = is.found m before own_ in let loses = is.unbeaten m before own_ in
              let wins : beats sizes (rank_at new n) best ≡ true = grind (arith, nat_tests) in
              better-through (rank_at sizes (rank_at new m)) (rank_at sizes (rank_at new n)) (rank_at sizes best) (rank_at new m)
              (rank_at new n) best wins loses)
          | inr same ↦ (let P : ℕ → Type 0 = λ k. beats sizes (rank_at new k) (rank_at new n) ≡ false in
              subst P (sym same) (better-itself (rank_at sizes (rank_at new n)) (rank_at new n)))
        ];
        attained = λ low. (n, omega arith, own, refl);
      }
      by_test false e = record {
        found = λ m low own_. grind (arith, nat_tests);
        unbeaten = λ m low own_. elim (cases m low) [
          | inl before ↦ is.unbeaten m before own_
          | inr same ↦ (let P : ℕ → Type 0 = λ k. beats sizes (rank_at new k) best ≡ false in
              let loses : beats sizes (rank_at new n) best ≡ false = grind (arith, nat_tests) in subst P (sym same) loses)
        ];
        attained = λ low. let (m, before, own_, at) = is.attained low in (m, omega (arith, before), own_, at);
      }

  other-more : (o best : ℕ) → rank_at old n ≢ o → IsLargestAmong count n old new sizes o best
      → IsLargestAmong count (n + 1) old new sizes o best
  other-more o best other is = record {
    found = λ m low own. is.found m (before m low own) own;
    unbeaten = λ m low own. is.unbeaten m (before m low own) own;
    attained = λ low. let (m, lower, own, at) = is.attained low in (m, omega (arith, lower), own, at);
  }
    where
      cases : (m : ℕ) → m < n + 1 → (m < n) ⊎ (m ≡ n)
      cases m low = grind arith

      before : (m : ℕ) → m < n + 1 → rank_at old m ≡ o → m < n
      before m low own = elim (cases m low) [
        | inl lower ↦ lower
        | inr same ↦ (let P : ℕ → Type 0 = λ k. rank_at old k ≡ o in absurd (other (subst P same own)))
      ]

  pub largest-more : (largest : List ℕ) → length largest ≡ count → rank_at old n < count → rank_at new n < count
      → ((o : ℕ) → o < count → IsLargestAmong count n old new sizes o (rank_at largest o))
      → (o : ℕ) → o < count → IsLargestAmong count (n + 1) old new sizes o
      (rank_at (slice_set largest (rank_at old n) (next_best (rank_at largest (rank_at old n)))) o)
  largest-more largest long small small_ each o low = by_test (nat_eq (rank_at old n) o) refl
    where
      next : ℕ
      next = next_best (rank_at largest (rank_at old n))

      by_test : (b : Bool) → nat_eq (rank_at old n) o ≡ b
          → IsLargestAmong count (n + 1) old new sizes o (rank_at
          (slice_set largest (rank_at old n) (next_best (rank_at largest (rank_at old n)))) o)
      by_test true e =
          let same : rank_at old n ≡ o = grind (arith, nat_tests) in
          let P : ℕ → Type 0 = λ k. IsLargestAmong count (n + 1) old new sizes k
          (rank_at (slice_set largest (rank_at old n) (next_best (rank_at largest (rank_at old n)))) k) in
          let Q : ℕ → Type 0 = λ b. IsLargestAmong count (n + 1) old new sizes (rank_at old n) b in
          let here = get_or-set_same largest (rank_at old n) (next_best (rank_at largest (rank_at old n))) 0 (omega (arith, small, long)) in
          subst P same (subst Q (sym here) (own-more (rank_at old n) (rank_at largest (rank_at old n)) small_ refl
          (each (rank_at old n) small)))
      by_test false e =
          let other : o ≢ rank_at old n = λ same. grind (arith, nat_tests) in
          let Q : ℕ → Type 0 = λ b. IsLargestAmong count (n + 1) old new sizes o b in
          let there = get_or-set_other largest (rank_at old n) o (next_best (rank_at largest (rank_at old n))) 0 other in
          subst Q (sym there) (other-more o (rank_at largest o) (λ same. other (sym same)) (each o low))

pub none-largest : (count : ℕ) (old new sizes : List ℕ) (o : ℕ) → IsLargestAmong count 0 old new sizes o count
none-largest count old new sizes o = record {
  found = λ m low own. absurd (omega (arith, low));
  unbeaten =
      λ m low own. absurd (omega (arith, low));
  attained = λ low. absurd (omega (arith, low));
}

module _ (g : Graph) (count : ℕ) (old new sizes : List ℕ) (nodes : g.nodes ≡ range_with_len 0 count)
    (sized : AreSizes count count new sizes) (within : (n : ℕ) → n < count → rank_at new n < count) where
  size-is : (n : ℕ) → n < count → size g (rank_at new) n ≡ rank_at sizes (rank_at new n)
  size-is n low = ap (how_many (λ m. nat_eq (rank_at new m) (rank_at new n))) nodes ∙ sym (sized.each (rank_at new n) (within n low))

  counts-same : (n : ℕ) → n < count → is_largest g (rank_at old) (rank_at new) n ≡ nat_eq
      (how_many (λ m. nat_eq (rank_at old m) (rank_at old n) && beats sizes (rank_at new m) (rank_at new n)) (range_with_len 0 count)) 0
  counts-same n low =
      let test : ℕ → ℕ → ℕ → Bool = λ m s t. nat_eq (rank_at old m) (rank_at old n) &&
      (ltb t s || (nat_eq s t && ltb (rank_at new m) (rank_at new n))) in
      let big : ℕ → ℕ = size g (rank_at new) in
      let own : ℕ → ℕ = λ m. rank_at sizes (rank_at new m) in
      ap (λ (ns : List ℕ). nat_eq (how_many (λ m. test m (big m) (big n)) ns) 0) nodes
      ∙ ap (λ k. nat_eq k 0) (count-agree (λ m. test m (big m) (big n)) (λ m. test m (own m) (own n)) (range_with_len 0 count)
      (λ m among. ap (λ s. test m s (big n)) (size-is m (range-below count m among)) ∙ ap (test m (own m)) (size-is n low)))

  pub largest-decides : (n best : ℕ) → n < count → IsLargestAmong count count old new sizes (rank_at old n) best
      → nat_eq best (rank_at new n) ≡ is_largest g (rank_at old) (rank_at new) n
  largest-decides n best low is = by_test (nat_eq best (rank_at new n)) refl ∙ sym (counts-same n low)
    where
      none : best ≡ rank_at new n → (m : ℕ) → Contains (range_with_len 0 count) m
          → (nat_eq (rank_at old m) (rank_at old n) && beats sizes (rank_at new m) (rank_at new n)) ≡ false
      none same m among = by_own (nat_eq (rank_at old m) (rank_at old n)) refl
        where
          by_own : (b : Bool) → nat_eq (rank_at old m) (rank_at old n) ≡ b → (b && beats sizes (rank_at new m) (rank_at new n)) ≡ false
          by_own false e = refl
          by_own true e =
              let own : rank_at old m ≡ rank_at old n = grind (arith, nat_tests) in
              let P : ℕ → Type 0 = λ b. beats sizes (rank_at new m) b ≡ false in
              subst P same (is.unbeaten m (range-below count m among) own)

      by_test : (b : Bool) → nat_eq best (rank_at new n) ≡ b
          → b ≡ nat_eq (how_many (λ m. nat_eq (rank_at old m) (rank_at old n) && beats sizes (rank_at new m) (rank_at new n))
          (range_with_len 0 count)) 0
      by_test true e =
          let same : best ≡ rank_at new n = grind (arith, nat_tests) in
          sym (ap (λ k. nat_eq k 0) (none-counted (λ m. nat_eq (rank_at old m) (rank_at old n) && beats sizes (rank_at new m)
          (rank_at new n)) (range_with_len 0 count) (none same)))
      by_test false e =
          let (m, lower, own, at) = is.attained (is.found n low refl) in
          let P : ℕ → Type 0 = λ b. beats sizes (rank_at new n) b ≡ false in
          let loses : beats sizes (rank_at new n) (rank_at new m) ≡ false = subst P (sym at) (is.unbeaten n low refl) in
          let apart : rank_at new m ≢ rank_at new n = λ same. grind (arith, nat_tests) in
          let wins : beats sizes (rank_at new m) (rank_at new n) ≡ true =
          better-apart (rank_at sizes (rank_at new n)) (rank_at sizes (rank_at new m)) (rank_at new n) (rank_at new m) loses
          (λ same. apart (sym same)) in
          let own_ : nat_eq (rank_at old m) (rank_at old n) ≡ true = grind (arith, nat_tests) in
          let pass : (nat_eq (rank_at old m) (rank_at old n) && beats sizes (rank_at new m) (rank_at new n)) ≡ true =
          ap (λ (b : Bool). b && beats sizes (rank_at new m) (rank_at new n)) own_ ∙ wins in
          let some = some-counted (λ k. nat_eq (rank_at old k) (rank_at old n) && beats sizes (rank_at new k) (rank_at new n))
          (range_with_len 0 count) m (Contains-range count m lower) pass in
          grind (arith, nat_tests)
