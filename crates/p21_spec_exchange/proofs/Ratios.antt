-- Equality of ratios by cross products: transitive, and zeros of a significand may move to the power of ten.
use Rattle.std.proofs.Common.{◌≡◌, ℕ, zero, suc, ◌+◌, ◌*◌, ◌^◌, ◌/◌, ◌<◌, ℤ, pos, negsuc, ◌*ℤ◌, neg_ℤ, nat_abs, Bool, true, ap, sym, ◌∙◌, arith, pow-add}
use Rattle.std.proofs.Math.Nat.{mul-div_cancel, one-le-pow, zero-mul}
use borrow.Author.Differences.{down}
use Rattle.p21_spec_exchange.specs.Number.{Ratio, SameRatio, scaled, signed, Decimal, ratio_of}
use Rattle.p21_spec_exchange.proofs.SignedNumbers.{abs_signed, signed-times}

pub cancel : (a b d : ℕ) → 0 < d → a * d ≡ b * d → a ≡ b
cancel a b d some same = sym (mul-div_cancel a some) ∙ ap (λ (n : ℕ). n / d) same ∙ mul-div_cancel b some

cross : (a b c d e f : ℕ) → 0 < e → a * e ≡ b * d → b * f ≡ c * e → a * f ≡ c * d
cross a b c d e f some first second = cancel (a * f) (c * d) e some (swap ∙ ap (λ n. n * f) first ∙ turn ∙ ap (λ n. n * d) second ∙ back)
  where
    swap : a * f * e ≡ a * e * f
    swap = omega arith

    turn : b * d * f ≡ b * f * d
    turn = omega arith

    back : c * e * d ≡ c * d * e
    back = omega arith

not_negative : (m n : ℕ) → 0 < n → pos m ≡ neg_ℤ (pos n) → ⊥
not_negative m zero some same = omega (arith, some)
not_negative m (suc n) some same = cc

-- equality of ratios is transitive where the middle denominator is not zero
pub ratio-transitive : (r s t : Ratio) → 0 < r.denominator → 0 < s.denominator → 0 < t.denominator → SameRatio r s → SameRatio s t → SameRatio r t
ratio-transitive r s t = by_sign r.numerator s.numerator t.numerator r.denominator s.denominator t.denominator
  where
    by_sign : (a b c : ℤ) (d e f : ℕ) → 0 < d → 0 < e → 0 < f → a *ℤ pos e ≡ b *ℤ pos d → b *ℤ pos f ≡ c *ℤ pos e → a *ℤ pos f ≡ c *ℤ pos d
    by_sign (pos a) (pos b) (pos c) d e f d0 e0 f0 h k = ap pos (cross a b c d e f e0 (ap nat_abs h) (ap nat_abs k))
    by_sign (pos a) (pos b) (negsuc c) d e f d0 e0 f0 h k = absurd (not_negative (b * f) (suc c * e) (omega (arith, e0)) k)
    by_sign (pos a) (negsuc b) c d e f d0 e0 f0 h k = absurd (not_negative (a * e) (suc b * d) (omega (arith, d0)) h)
    by_sign (negsuc a) (pos b) c d e f d0 e0 f0 h k = absurd (not_negative (b * d) (suc a * e) (omega (arith, e0)) (sym h))
    by_sign (negsuc a) (negsuc b) (pos c) d e f d0 e0 f0 h k = absurd (not_negative (c * e) (suc b * f) (omega (arith, f0)) (sym k))
    by_sign (negsuc a) (negsuc b) (negsuc c) d e f d0 e0 f0 h k =
        ap (λ n. neg_ℤ (pos n)) (cross (suc a) (suc b) (suc c) d e f e0 (sym (abs_signed true (suc a * e)) ∙ ap nat_abs h ∙ abs_signed true (suc b * d)) (sym (abs_signed true (suc b * f)) ∙ ap nat_abs k ∙ abs_signed true (suc c * e)))

pub ratio-positive : (d : Decimal) → 0 < (ratio_of d).denominator
ratio-positive d = one-le-pow (down d.exponent) 10 (omega arith)

pub decimals-transitive : (a b c : Decimal) → SameRatio (ratio_of a) (ratio_of b) → SameRatio (ratio_of b) (ratio_of c) → SameRatio (ratio_of a) (ratio_of c)
decimals-transitive a b c = ratio-transitive (ratio_of a) (ratio_of b) (ratio_of c) (ratio-positive a) (ratio-positive b) (ratio-positive c)

pub product_of_two : (d r q : ℕ) → d * 10 ^ r * 10 ^ q ≡ d * 10 ^ (r + q)
product_of_two d r q = rw (pow-add 10 r q) (grind arith)

product : (d t p s : ℕ) → d * 10 ^ t * 10 ^ p * 10 ^ s ≡ d * 10 ^ (t + p + s)
product d t p s = rw (pow-add 10 (t + p) s, pow-add 10 t p) (grind arith)

-- a significand may lose zeros where the power of ten makes up for them
pub same_scaled : (b : Bool) (n d t p q r s : ℕ) → n ≡ d * 10 ^ t → t + p + s ≡ r + q → SameRatio (scaled (signed b n) p q) (scaled (signed b d) r s)
same_scaled b n d t p q r s e f =
    let left : signed b n *ℤ pos (10 ^ p) *ℤ pos (10 ^ s) ≡ signed b (n * 10 ^ p * 10 ^ s) = rw (signed-times b n (10 ^ p), signed-times b (n * 10 ^ p) (10 ^ s)) in
    let right : signed b d *ℤ pos (10 ^ r) *ℤ pos (10 ^ q) ≡ signed b (d * 10 ^ r * 10 ^ q) = rw (signed-times b d (10 ^ r), signed-times b (d * 10 ^ r) (10 ^ q)) in
    let numbers : n * 10 ^ p * 10 ^ s ≡ d * 10 ^ r * 10 ^ q =
    ap (λ (m : ℕ). m * 10 ^ p * 10 ^ s) e ∙ product d t p s ∙ ap (λ (k : ℕ). d * 10 ^ k) f ∙ sym (product_of_two d r q) in
    left ∙ ap (signed b) numbers ∙ sym right

-- zero is one ratio, whatever the powers of ten
pub same_zero : (p q r s : ℕ) → SameRatio (scaled (pos 0) p q) (scaled (pos 0) r s)
same_zero p q r s =
    let none : (a b : ℕ) → 0 * 10 ^ a * 10 ^ b ≡ 0 = λ a b. product_of_two 0 a b ∙ zero-mul (10 ^ (a + b)) in
    ap pos (none p s ∙ sym (none r q))
