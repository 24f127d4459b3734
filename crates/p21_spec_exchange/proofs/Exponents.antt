-- A ratio has one normalised exponent at most, so that one in range is enough.
use Rattle.std.proofs.Common.{◌≡◌, ℕ, suc, ◌+◌, ◌*◌, ◌^◌, ◌<◌, ◌≤◌, ℤ, pos, ◌*ℤ◌, nat_abs, Bool, ap, sym, ◌∙◌, subst, arith, pow-add, inl, inr}
use Rattle.std.proofs.lemmas.Bool.{cases_lt}
use Rattle.std.proofs.Math.Nat.{pow-succ', one-le-pow, pow-le-pow_right, mul_assoc, mul-le-mul_right, mul-lt-mul_of_pos_right, zero-mul}
use borrow.Author.Differences.{up, down, same_in}
use Rattle.p21_spec_exchange.specs.Number.{Ratio, HasNormalisedExponent, IsExponentInRange, IsInRange, SameRatio, scaled, signed}
use Rattle.p21_spec_exchange.proofs.SignedNumbers.{abs_signed, abs_times, signed-times}

swap_last : (x y z : ℕ) → x * y * z ≡ x * z * y
swap_last x y z = grind arith

regroup_top : (x y z : ℕ) → 10 * x * y * z ≡ 10 * (x * z) * y
regroup_top x y z = grind arith

le_of_times : (d x y : ℕ) → 0 < d → x * d ≤ y * d → x ≤ y
le_of_times d x y some h = elim (cases_lt y x) [ inl more ↦ absurd (omega (arith, mul-lt-mul_of_pos_right more some)) | inr fine ↦ fine ]

lt_of_times : (d x y : ℕ) → x * d < y * d → x < y
lt_of_times d x y h = elim (cases_lt x y) [ inl less ↦ less | inr more ↦ absurd (omega (arith, mul-le-mul_right d more)) ]

half : (r : Ratio) (j k : ℤ) → 0 < r.denominator → HasNormalisedExponent r j → HasNormalisedExponent r k → up j + down k ≤ up k + down j
half r j k positive h i =
    elim (cases_lt (up k + down j) (up j + down k)) [
      | inr fine ↦ fine
      | inl more ↦
          let a = nat_abs r.numerator in
          let d = r.denominator in
          let low = mul-le-mul_right (10 ^ down k) h.low in
          let high = mul-lt-mul_of_pos_right i.high (one-le-pow (down j) 10 (omega arith)) in
          let left : 10 ^ up j * d * 10 ^ down k ≡ 10 ^ (up j + down k) * d = swap_last (10 ^ up j) d (10 ^ down k) ∙ ap (λ (m : ℕ). m * d) (sym (pow-add 10 (up j) (down k))) in
          let right : 10 * 10 ^ up k * d * 10 ^ down j ≡ 10 ^ suc (up k + down j) * d =
          regroup_top (10 ^ up k) d (10 ^ down j) ∙ ap (λ (m : ℕ). 10 * m * d) (sym (pow-add 10 (up k) (down j))) ∙ ap (λ (m : ℕ). m * d) (sym (pow-succ' 10 (up k + down j))) in
          let middle : a * 10 ^ down j * 10 ^ down k ≡ a * 10 ^ down k * 10 ^ down j = swap_last a (10 ^ down j) (10 ^ down k) in
          let grows : 10 ^ suc (up k + down j) * d ≤ 10 ^ (up j + down k) * d = mul-le-mul_right d (pow-le-pow_right {n = 10} (omega arith) {i = suc (up k + down j)} {j = up j + down k} (omega arith)) in
          absurd (omega (arith, low, high, left, right, middle, grows))
    ]

pub exponent_once : (r : Ratio) (j k : ℤ) → 0 < r.denominator → HasNormalisedExponent r j → HasNormalisedExponent r k → j ≡ k
exponent_once r j k positive h i =
    let a = half r j k positive h i in
    let b = half r k j positive i h in
    same_in j k (omega arith)

pub in_range_by : (r : Ratio) (j : ℤ) → 0 < r.denominator → HasNormalisedExponent r j → IsExponentInRange j → IsInRange r
in_range_by r j positive own near k h = subst IsExponentInRange (exponent_once r j k positive own h) near

scale_low : (u d n w m e : ℕ) → 0 < d → n * e ≡ m * d → u * d ≤ n * w → u * e ≤ m * w
scale_low u d n w m e some same low =
    let scaled_low : u * d * e ≤ n * w * e = mul-le-mul_right e low in
    let left : u * d * e ≡ u * e * d = swap_last u d e in
    let right : n * w * e ≡ m * w * d = swap_last n w e ∙ ap (λ (k : ℕ). k * w) same ∙ swap_last m d w in
    le_of_times d (u * e) (m * w) some (omega (arith, scaled_low, left, right))

scale_high : (u d n w m e : ℕ) → 0 < e → n * e ≡ m * d → n * w < u * d → m * w < u * e
scale_high u d n w m e some same high =
    let scaled_high : n * w * e < u * d * e = mul-lt-mul_of_pos_right high some in
    let left : n * w * e ≡ m * w * d = swap_last n w e ∙ ap (λ (k : ℕ). k * w) same ∙ swap_last m d w in
    let right : u * d * e ≡ u * e * d = swap_last u d e in
    lt_of_times d (m * w) (u * e) (omega (arith, scaled_high, left, right))

cross_abs : (r s : Ratio) → SameRatio r s → nat_abs r.numerator * s.denominator ≡ nat_abs s.numerator * r.denominator
cross_abs r s same = sym (abs_times r.numerator s.denominator) ∙ ap nat_abs same ∙ abs_times s.numerator r.denominator

-- equal ratios have the same exponent
pub exponent_of_same : (r s : Ratio) (k : ℤ) → 0 < r.denominator → 0 < s.denominator → SameRatio r s → HasNormalisedExponent r k → HasNormalisedExponent s k
exponent_of_same r s k some_r some_s same h =
    let numbers = cross_abs r s same in
    record {
      low = scale_low (10 ^ up k) r.denominator (nat_abs r.numerator) (10 ^ down k) (nat_abs s.numerator) s.denominator some_r numbers h.low;
      high = scale_high (10 * 10 ^ up k) r.denominator (nat_abs r.numerator) (10 ^ down k) (nat_abs s.numerator) s.denominator some_s numbers h.high;
    }

pub in_range_of_same : (r s : Ratio) → 0 < r.denominator → 0 < s.denominator → SameRatio r s → IsInRange r → IsInRange s
in_range_of_same r s some_r some_s same in_range k h = in_range k (exponent_of_same s r k some_s some_r (sym same) h)

pub zero_has_none : (r : Ratio) (k : ℤ) → nat_abs r.numerator ≡ 0 → 0 < r.denominator → HasNormalisedExponent r k → ⊥
zero_has_none r k zero positive h =
    let none : nat_abs r.numerator * 10 ^ down k ≡ 0 * 10 ^ down k = ap (λ (n : ℕ). n * 10 ^ down k) zero in
    let some = mul-lt-mul_of_pos_right (one-le-pow (up k) 10 (omega arith)) positive in
    omega (arith, none, some, h.low, zero-mul (10 ^ down k), zero-mul r.denominator)

regroup : (x y z : ℕ) → 10 * x * y * z ≡ 10 * (x * y * z)
regroup x y z = grind arith

-- the exponent of a number of l + 1 digits
pub has_exponent : (b : Bool) (n l p q : ℕ) (k : ℤ) → 10 ^ l ≤ n → n < 10 ^ suc l → up k + q ≡ l + p + down k → HasNormalisedExponent (scaled (signed b n) p q) k
has_exponent b n l p q k low high e =
    let abs : nat_abs (signed b n *ℤ pos (10 ^ p)) ≡ n * 10 ^ p = rw (signed-times b n (10 ^ p)) (abs_signed b (n * 10 ^ p)) in
    let power : 10 ^ up k * 10 ^ q ≡ 10 ^ l * 10 ^ p * 10 ^ down k =
    sym (pow-add 10 (up k) q) ∙ ap (λ (m : ℕ). 10 ^ m) e ∙ pow-add 10 (l + p) (down k) ∙ ap (λ (m : ℕ). m * 10 ^ down k) (pow-add 10 l p) in
    let above : n * 10 ^ p * 10 ^ down k < 10 ^ suc l * 10 ^ p * 10 ^ down k =
    mul-lt-mul_of_pos_right (mul-lt-mul_of_pos_right high (one-le-pow p 10 (omega arith))) (one-le-pow (down k) 10 (omega arith)) in
    let top : 10 ^ suc l * 10 ^ p * 10 ^ down k ≡ 10 * 10 ^ up k * 10 ^ q =
    ap (λ (m : ℕ). m * 10 ^ p * 10 ^ down k) (pow-succ' 10 l) ∙ regroup (10 ^ l) (10 ^ p) (10 ^ down k) ∙ ap (λ (m : ℕ). 10 * m) (sym power) ∙ sym (mul_assoc 10 (10 ^ up k) (10 ^ q)) in
    record {
      low = rw (abs, power) (mul-le-mul_right (10 ^ down k) (mul-le-mul_right (10 ^ p) low));
      high = rw abs (omega (arith, above, top));
    }

-- zero has none, however it is written
pub zero_has_no_exponent : (m : ℤ) (p q : ℕ) (k : ℤ) → m ≡ pos 0 → HasNormalisedExponent (scaled m p q) k → ⊥
zero_has_no_exponent m p q k e =
    zero_has_none (scaled m p q) k (let zero : nat_abs (m *ℤ pos (10 ^ p)) ≡ 0 = rw e (zero-mul (10 ^ p)) in zero) (one-le-pow q 10 (omega arith))
