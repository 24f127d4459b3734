-- Whether numbers are within a tolerance doesn't depend on the fractions that they are written as.
use Rattle.std.proofs.Common.{◌≡◌, ◌↔◌, ◌⊎◌, inl, inr, ◌++◌, length, Option, None, Some, IfSome, ℕ, zero, suc, ◌+◌, ◌*◌, ◌^◌, ◌<◌, ℤ}
use Rattle.std.proofs.Common.{pos, negsuc, ◌*ℤ◌, neg_ℤ, nat_abs, Bool, true, false, refl, ap, sym, ◌∙◌, arith}
use Rattle.std.proofs.lemmas.Int.{ints}
use Rattle.std.proofs.Math.Nat.{one-le-pow, zero-mul}
use borrow.Author.Differences.{up, down}
use Rattle.p21_spec_basics.specs.Digits.{number}
use Rattle.p21_spec_exchange.proofs.Ratios.{ratio-positive}
use Rattle.p21_spec_exchange.specs.Parameter.{Param, bits, dollar, item, list, name, real, star, text, typed, whole}
use Rattle.p21_model_values.specs.declared.digits.Digits.{Digits}
use Rattle.p21_tolerance.specs.Numbers.{AreDigitsOf, AreNumbersWithin, AreNumbersWithinShare, number_in}
use Rattle.p21_tolerance.specs.declared.tolerance.Tolerance.{Tolerance}
use Rattle.p21_spec_exchange.specs.Number.{Ratio, SameRatio, signed}
use Rattle.p21_spec_exchange.proofs.SignedNumbers.{abs_times, signed-times}
use Rattle.p21_tolerance.specs.Within.{AreWithin, number_of, share_of, tolerance_of}
use Rattle.p21_tolerance.proofs.Scaled.{near-within}
use Rattle.p21_tolerance.proofs.SumsLeft.{both-ways, other-way}

-- an equal fraction has the same sign, or both are zero
signed-same : (m : Bool) (x : ℕ) (z : ℤ) (d e : ℕ) → 0 < d → 0 < e → signed m x *ℤ pos e ≡ z *ℤ pos d
    → (y : ℕ) × (z ≡ signed m y) × (x * e ≡ y * d)
signed-same false x (pos y) d e d0 e0 same = (y, refl, ap nat_abs same)
signed-same false x (negsuc y) d e d0 e0 same =
    let some : 0 < suc y * d = omega (arith, d0) in
    absurd (omega (arith, ints, same, some))
signed-same true x (pos y) d e d0 e0 same =
    let turned : neg_ℤ (pos (x * e)) ≡ pos (y * d) = sym (signed-times true x e) ∙ same in
    let none : y * d ≡ 0 = omega (arith, ints, turned) in
    let first : x * e ≡ 0 = omega (arith, ints, turned) in
    (0, nothing y none, first ∙ sym (zero-mul d))
  where
    nothing : (y : ℕ) → y * d ≡ 0 → pos y ≡ pos 0
    nothing zero none = refl
    nothing (suc y) none = absurd (omega (arith, d0, none))
signed-same true x (negsuc y) d e d0 e0 same =
    let turned : neg_ℤ (pos (x * e)) ≡ neg_ℤ (pos (suc y * d)) = sym (signed-times true x e) ∙ same in
    (suc y, refl, omega (arith, ints, turned))

shifted : (x d e s t u v y : ℕ) → x * e ≡ y * d → x * (s * t) * (e * u * v) ≡ y * (u * v) * (d * s * t)
shifted x d e s t u v y same = before x e s t u v ∙ ap (λ n. n * (s * t * u * v)) same ∙ behind y d s t u v
  where
    before : (x e s t u v : ℕ) → x * (s * t) * (e * u * v) ≡ x * e * (s * t * u * v)
    before x e s t u v = grind arith

    behind : (y d s t u v : ℕ) → y * d * (s * t * u * v) ≡ y * (u * v) * (d * s * t)
    behind y d s t u v = grind arith

turned_front : (x y z : ℕ) → x * y * z ≡ y * x * z
turned_front x y z = grind arith

around : (x y z : ℕ) → x * y * z ≡ z * x * y
around x y z = grind arith

turn_ : (y d e r t u w y_ : ℕ) → y * e ≡ y_ * d → y * (r * t) * (u * e * w) ≡ y_ * (u * w) * (r * d * t)
turn_ y d e r t u w y_ same = ap (λ n. y * (r * t) * n) (turned_front u e w) ∙ shifted y d e r t u w y_ same
    ∙ ap (λ n. y_ * (u * w) * n) (turned_front d r t)

last : (z d e r s u v z_ : ℕ) → z * e ≡ z_ * d → z * (r * s) * (u * v * e) ≡ z_ * (u * v) * (r * s * d)
last z d e r s u v z_ same = ap (λ n. z * (r * s) * n) (around u v e) ∙ shifted z d e r s u v z_ same
    ∙ ap (λ n. z_ * (u * v) * n) (sym (around r s d))

positive : (x y z : ℕ) → 0 < x → 0 < y → 0 < z → 0 < x * y * z
positive zero y z p q r = absurd (omega (arith, p))
positive (suc x) zero z p q r = absurd (omega (arith, q))
positive (suc x) (suc y) zero p q r = absurd (omega (arith, r))
positive (suc x) (suc y) (suc z) p q r = omega arith

pub within-same : (m n : Bool) (x y z : ℕ) (r s t u v w : Ratio) → r.numerator ≡ signed m x → s.numerator ≡ signed n y → t.numerator ≡ pos z
    → 0 < r.denominator → 0 < s.denominator → 0 < t.denominator → 0 < u.denominator → 0 < v.denominator → 0 < w.denominator
    → SameRatio r u → SameRatio s v → SameRatio t w → AreWithin r s t ↔ AreWithin u v w
within-same m n x y z r s t u v w p q o r0 s0 t0 u0 v0 w0 first second third =
    let (x_, x_is, x_same) = signed-same m x u.numerator r.denominator u.denominator r0 u0 (ap (λ (i : ℤ). i *ℤ pos u.denominator)
    (sym p) ∙ first) in
    let (y_, y_is, y_same) = signed-same n y v.numerator s.denominator v.denominator s0 v0 (ap (λ (i : ℤ). i *ℤ pos v.denominator)
    (sym q) ∙ second) in
    let (z_, z_is, z_same) = signed-same false z w.numerator t.denominator w.denominator t0 w0 (ap (λ (i : ℤ). i *ℤ pos w.denominator)
    (sym o) ∙ third) in
    let a = x_ * (v.denominator * w.denominator) in
    let b = y_ * (u.denominator * w.denominator) in
    let c = z_ * (u.denominator * v.denominator) in
    let e = u.denominator * v.denominator * w.denominator in
    let k = r.denominator * s.denominator * t.denominator in
    let before = near-within m n r s t x y z a b c e k p q o (positive _ _ _ u0 v0 w0) (positive _ _ _ r0 s0 t0)
    (shifted x r.denominator u.denominator s.denominator t.denominator v.denominator w.denominator x_ x_same)
    (turn_ y s.denominator v.denominator r.denominator t.denominator u.denominator w.denominator y_ y_same)
    (last z t.denominator w.denominator r.denominator s.denominator u.denominator v.denominator z_ z_same) in
    let behind = near-within m n u v w x_ y_ z_ a b c 1 1 x_is y_is z_is (omega arith) (omega arith) refl refl refl in
    both-ways (other-way before) behind

-- ---- numbers of parameters

pub number-positive : (p : Param) → IfSome (number_in p) (λ r. 0 < r.denominator)
number-positive (whole z) = omega arith
number-positive (real d) = ratio-positive d
number-positive dollar = tt
number-positive star = tt
number-positive (text characters) = tt
number-positive (name n) = tt
number-positive (item word) = tt
number-positive (bits value) = tt
number-positive (list ps) = tt
number-positive (typed key p) = tt

digits-positive : (d : Digits) → 0 < (number_of d).denominator
digits-positive d = one-le-pow (length d.fraction.now + down d.exponent) 10 (omega arith)

digits-signed : (d : Digits) → (number_of d).numerator ≡ signed d.negative (number (d.whole.now ++ d.fraction.now) * 10 ^ up d.exponent)
digits-signed d = signed-times d.negative (number (d.whole.now ++ d.fraction.now)) (10 ^ up d.exponent)

pub within-numbers : (first second : Digits) (t : Tolerance) (r s : Option Ratio) → IfSome r (λ x. 0 < x.denominator)
    → IfSome s (λ x. 0 < x.denominator)
    → AreDigitsOf (Some first) r → AreDigitsOf (Some second) s
    → AreWithin (number_of first) (number_of second) (tolerance_of t) ↔ AreNumbersWithin r s (tolerance_of t)
within-numbers first second t None s r0 s0 p q = absurd p
within-numbers first second t (Some r) None r0 s0 p q = absurd q
within-numbers first second t (Some r) (Some s) r0 s0 p q =
    within-same first.negative second.negative _ _ (t.units * 10 ^ up t.power) (number_of first) (number_of second) (tolerance_of t) r s
    (tolerance_of t) (digits-signed first) (digits-signed second) refl (digits-positive first) (digits-positive second)
    (one-le-pow (down t.power) 10 (omega arith)) r0 s0 (one-le-pow (down t.power) 10 (omega arith)) p q refl

share-sizes : (n d a b e f : ℕ) → a * f ≡ b * e → n * a * (d * f) ≡ n * b * (d * e)
share-sizes n d a b e f same = gather n d a f ∙ ap (λ (x : ℕ). n * d * x) same ∙ sym (gather n d b e)
  where
    gather : (n d a f : ℕ) → n * a * (d * f) ≡ n * d * (a * f)
    gather n d a f = grind arith

share-same : (t : Tolerance) (r s : Ratio) → SameRatio r s → SameRatio (share_of (tolerance_of t) r) (share_of (tolerance_of t) s)
share-same t r s same =
    let sizes : nat_abs r.numerator * s.denominator ≡ nat_abs s.numerator * r.denominator =
    sym (abs_times r.numerator s.denominator) ∙ ap nat_abs same ∙ abs_times s.numerator r.denominator in
    ap pos (share-sizes (t.units * 10 ^ up t.power) (10 ^ down t.power) (nat_abs r.numerator)
    (nat_abs s.numerator) r.denominator s.denominator sizes)

product-positive : (x y : ℕ) → 0 < x → 0 < y → 0 < x * y
product-positive zero y p q = absurd (omega (arith, p))
product-positive (suc x) zero p q = absurd (omega (arith, q))
product-positive (suc x) (suc y) p q = omega arith

share-numbers : (first second third : Digits) (t : Tolerance) (r s u : Ratio) → 0 < r.denominator → 0 < s.denominator → 0 < u.denominator
    → SameRatio (number_of first) r → SameRatio (number_of second) s → SameRatio (number_of third) u
    → AreWithin (number_of first) (number_of second) (share_of (tolerance_of t) (number_of third))
    ↔ AreWithin r s (share_of (tolerance_of t) u)
share-numbers first second third t r s u r0 s0 u0 p q o =
    let power = one-le-pow (down t.power) 10 (omega arith) in
    within-same first.negative second.negative _ _ (t.units * 10 ^ up t.power * nat_abs (number_of third).numerator) (number_of first)
    (number_of second) (share_of (tolerance_of t) (number_of third)) r s (share_of (tolerance_of t) u) (digits-signed first)
    (digits-signed second) refl (digits-positive first) (digits-positive second)
    (product-positive (10 ^ down t.power) (number_of third).denominator power (digits-positive third)) r0 s0
    (product-positive (10 ^ down t.power) u.denominator power u0) p q (share-same t (number_of third) u o)

-- by the share of one number or of the other
pub shares-numbers : (first second : Digits) (t : Tolerance) (r s : Option Ratio) → IfSome r (λ x. 0 < x.denominator)
    → IfSome s (λ x. 0 < x.denominator)
    → AreDigitsOf (Some first) r → AreDigitsOf (Some second) s
    → (AreWithin (number_of first) (number_of second) (share_of (tolerance_of t) (number_of first))
    ⊎ AreWithin (number_of first) (number_of second) (share_of (tolerance_of t) (number_of second)))
    ↔ AreNumbersWithinShare r s (tolerance_of t)
shares-numbers first second t None s r0 s0 p q = absurd p
shares-numbers first second t (Some r) None r0 s0 p q = absurd q
shares-numbers first second t (Some r) (Some s) r0 s0 p q =
    let by_first = share-numbers first second first t r s r r0 s0 r0 p q p in
    let by_second = share-numbers first second second t r s s r0 s0 s0 p q q in (
      λ either. elim either [ inl h ↦ inl (by_first.0 h) | inr h ↦ inr (by_second.0 h) ],
      λ either. elim either [ inl h ↦ inl (by_first.1 h) | inr h ↦ inr (by_second.1 h) ],
    )
