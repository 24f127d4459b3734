-- What a mask shows: the first and the last place, the place behind the first, and what several masks show together.
use Rattle.std.proofs.Common.{◌≡◌, ℕ, suc, ◌+◌, ◌-◌, ◌*◌, ◌/◌, ◌%◌, ◌^◌, ◌<◌, ◌≤◌, min, max, Bool, true, false, cond, not, ◌&&◌, inl, inr, refl, sym, ap, ◌∙◌, subst, arith, pow-suc}
use Rattle.std.specs.Int.{bit_at, w64}
use Rattle.std.specs.Int.Bits.{bit_and, bit_or, mask_lt}
use Rattle.std.specs.Int.Count.{count_trailing_zeros, count_leading_zeros, leading_of_zero}
use Rattle.std.specs.Slice.Scan.{IsFirstPlace, IsLastPlace}
use Rattle.std.proofs.Math.Pow.{pow_mono, shl_exact}
use Rattle.std.proofs.Math.Arith.{digits_lt}
use Rattle.std.proofs.lemmas.Bool.{cases_lt, cases_eq}
use Rattle.std.proofs.lemmas.Nat.{leading_top, one_shl, or_lt, or_shifted, or_comm, and_le_l, shr_high, pow-add}
use Rattle.std.proofs.lemmas.Nat.Bits.{bit_at-trailing_zeros, bit_at-zero, bit_at_and, bit_at_or, bit_at_not, bit_at_ones, bit_at_above, bit_at_cat_low, bit_at_cat_high}
use Rattle.p21_shorter_tokens.specs.Masks.{Shows}
use Rattle.p21_shorter_tokens.proofs.MaskBits.{dropped, drops}

set : (b : Bool) → ◌≡◌ {A = ℕ} (cond b 1 0) 1 → b ≡ true
set true h = refl
set false h = absurd (omega arith)

clear : (b : Bool) → ◌≡◌ {A = ℕ} (cond b 1 0) 0 → b ≡ false
clear true h = absurd (omega arith)
clear false h = refl

module _ (p : ℕ → Bool) (n m : ℕ) (few : n ≤ 64) (shows : Shows p n m) where
  short : m < 2 ^ 64
  short = omega (arith, shows.within, pow_mono few)

  holds-at : (i : ℕ) → bit_at m i ≡ 1 → (i < n) × (p i ≡ true)
  holds-at i one = elim (cases_lt i n) [
    | inl low ↦ (low, set (p i) (sym (shows.bits i low) ∙ one))
    | inr high ↦ absurd (omega (arith, bit_at_above m n i shows.within high))
  ]

  fails-at : (i : ℕ) → i < n → bit_at m i ≡ 0 → p i ≡ false
  fails-at i low none = clear (p i) (sym (shows.bits i low) ∙ none)

  -- the lowest bit is the first place
  pub first-shown : 0 < m → (count_trailing_zeros 64 m < n) × IsFirstPlace p 0 n (count_trailing_zeros 64 m)
  first-shown some =
      let t = bit_at-trailing_zeros w64 m some short in
      let h = holds-at (count_trailing_zeros 64 m) t.1 in
      (h.0, record { low = omega arith; high = omega (arith, h.0); before = λ k from to. fails-at k (omega (arith, h.0)) (t.2 k to); hit = λ _. h.1 })

  -- the lowest bit that is left without it is the next place
  pub next-shown : 0 < m → 0 < dropped m
      → let t = count_trailing_zeros 64 m in let e = count_trailing_zeros 64 (dropped m) in
      (t < e) × (e < n) × (p e ≡ true) × ((i : ℕ) → t < i → i < e → p i ≡ false)
  next-shown some more =
      let t = count_trailing_zeros 64 m in
      let e = count_trailing_zeros 64 (dropped m) in
      let first = bit_at-trailing_zeros w64 m some short in
      let second = bit_at-trailing_zeros w64 (dropped m) more (omega (arith, and_le_l m (m - 1), short)) in
      let other : e ≡ t → ⊥ = λ same. omega (arith, second.1, (drops 64 m e some short).0 same) in
      let is : bit_at m e ≡ 1 = sym ((drops 64 m e some short).1 other) ∙ second.1 in
      let h = holds-at e is in
      let behind : t < e = elim (cases_lt e t) [
        | inl before ↦ absurd (omega (arith, first.2 e before, is))
        | inr from ↦ elim (cases_eq e t) [ inl same ↦ absurd (other same) | inr apart ↦ omega arith ]
      ] in
      (behind, h.0, h.1, λ i from to. fails-at i (omega (arith, h.0)) (sym ((drops 64 m i some short).1 (λ same. omega arith)) ∙ second.2 i to))

  -- the highest bit is the last place
  pub last-shown : IsLastPlace p 0 n (64 - count_leading_zeros 64 m)
  last-shown = elim (cases_eq m 0) [
    | inl none ↦
        let top : 64 - count_leading_zeros 64 m ≡ 0 = omega (arith, ap (count_leading_zeros 64) none, leading_of_zero 64) in
        subst (λ r. IsLastPlace p 0 n r) (sym top)
        (record { low = omega arith; high = omega arith; after = λ k from to. fails-at k to (ap (λ x. bit_at x k) none ∙ bit_at-zero k); hit = λ l. absurd (omega arith) })
    | inr some ↦
        let t = leading_top 64 m (omega arith) short in
        let j = t.0 in
        let top : 64 - count_leading_zeros 64 m ≡ suc j = omega (arith, t.1) in
        let whole : m / 2 ^ j ≡ 1 = let parts : m ≡ 1 * 2 ^ j + (m - 2 ^ j) = omega (arith, t.2) in ap (λ x. x / 2 ^ j) parts ∙ shr_high 1 j (m - 2 ^ j) (omega (arith, t.3, pow-suc 2 j)) in
        let h = holds-at j (ap (λ x. x % 2) whole) in
        let before : suc j - 1 ≡ j = omega arith in
        subst (λ r. IsLastPlace p 0 n r) (sym top)
        (record { low = omega arith; high = h.0; after = λ k from to. fails-at k to (bit_at_above m (suc j) k t.3 from); hit = λ _. ap p before ∙ h.1 })
  ]

-- ---- masks together

-- what neither of two masks shows, below a place
neither : (a b : Bool) → min (1 - max (cond a 1 0) (cond b 1 0)) 1 ≡ cond (not a && not b) 1 0
neither true true = refl
neither true false = refl
neither false true = refl
neither false false = refl

pub neither-shown : (p q : ℕ → Bool) (n a b e : ℕ) → n ≤ 64 → e < n → Shows p n a → Shows q n b
    → Shows (λ i. not (p i) && not (q i)) e (bit_and (2 ^ 64 - 1 - bit_or a b) (1 * 2 ^ e % 2 ^ 64 - 1))
neither-shown p q n a b e few low first second =
    let short : bit_or a b < 2 ^ 64 = or_lt 64 a b (omega (arith, first.within, pow_mono few)) (omega (arith, second.within, pow_mono few)) in
    subst (λ m. Shows (λ i. not (p i) && not (q i)) e (bit_and (2 ^ 64 - 1 - bit_or a b) (m - 1))) (sym (one_shl e 64 (omega arith)))
    (record {
      within = mask_lt (2 ^ 64 - 1 - bit_or a b) e;
      bits = λ i to.
          bit_at_and (2 ^ 64 - 1 - bit_or a b) (2 ^ e - 1) i
          ∙ (λ j. min (bit_at_not w64 (bit_or a b) i short (omega arith) j) (bit_at_ones e i to j))
          ∙ ap (λ x. min (1 - x) 1) (bit_at_or a b i ∙ (λ j. max (first.bits i (omega arith) j) (second.bits i (omega arith) j)))
          ∙ neither (p i) (q i);
    })

-- a mask of the first k places, and one of the n behind them
pub both-shown : (p : ℕ → Bool) (k n a b : ℕ) → k + n ≤ 64 → Shows p k a → Shows (λ i. p (k + i)) n b → Shows p (k + n) (bit_or a (b * 2 ^ k % 2 ^ 64))
both-shown p k n a b few first second =
    let whole : b * 2 ^ k % 2 ^ 64 ≡ b * 2 ^ k = shl_exact n k 64 second.within (omega arith) in
    let turned : n + k ≡ k + n = omega arith in
    let is : bit_or a (b * 2 ^ k % 2 ^ 64) ≡ b * 2 ^ k + a = ap (bit_or a) whole ∙ or_comm a (b * 2 ^ k) ∙ or_shifted b k a first.within in
    subst (λ m. Shows p (k + n) m) (sym is)
    (record {
      within = subst (λ w. b * 2 ^ k + a < 2 ^ w) turned (subst (λ x. b * 2 ^ k + a < x) (sym (pow-add 2 n k)) (digits_lt second.within first.within));
      bits = λ i to. elim (cases_lt i k) [
        | inl low ↦ bit_at_cat_low b k a i low ∙ first.bits i low
        | inr from ↦ let back : k + (i - k) ≡ i = omega arith in bit_at_cat_high b k a i first.within from ∙ second.bits (i - k) (omega arith) ∙ ap (λ j. cond (p j) 1 0) back
      ];
    })

-- the same places, by a test that answers the same
pub same-shown : (p q : ℕ → Bool) (n m : ℕ) → ((i : ℕ) → i < n → p i ≡ q i) → Shows p n m → Shows q n m
same-shown p q n m same shows = record { within = shows.within; bits = λ i to. shows.bits i to ∙ ap (λ t. cond t 1 0) (same i to) }
