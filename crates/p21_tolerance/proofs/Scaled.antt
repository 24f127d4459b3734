-- Three fractions, whose denominators are powers of ten, as numbers of places from one place on.
use Rattle.std.proofs.Common.{◌++◌, length, ◌-ℤ◌, ◌≡◌, ◌↔◌, ℕ, ◌+◌, ◌*◌, ◌^◌, ◌<◌, ◌≤◌, ℤ, pos, ◌+ℤ◌, ◌*ℤ◌, ◌≤ℤ◌, nat_abs, Bool}
use Rattle.std.proofs.Common.{true, false, ap, sym, ◌∙◌, arith, pow-add}
use Rattle.std.proofs.lemmas.Int.{ints}
use Rattle.std.proofs.Math.Nat.{add-mul, le_of_mul-le-mul_right, mul-le-mul_right, one-le-pow}
use mathlib.Core.Bool.{beq}
use borrow.Author.Differences.{up, down}
use Rattle.p21_spec_basics.specs.Digits.{number}
use Rattle.p21_spec_exchange.specs.Number.{Ratio, signed}
use Rattle.p21_spec_exchange.proofs.SignedNumbers.{abs_signed, abs_times, signed-times}
use Rattle.p21_tolerance.specs.Near.{AreNear}
use Rattle.p21_tolerance.specs.Within.{AreWithin, number_of, share_of, tolerance_of}
use Rattle.p21_model_values.specs.declared.digits.Digits.{Digits}
use Rattle.p21_tolerance.specs.declared.tolerance.Tolerance.{Tolerance}

-- ---- one scale for another

-- x over e is a over k, for each of three
at-most : (x y a b e k : ℕ) → 0 < e → 0 < k → x * e ≡ a * k → y * e ≡ b * k → a ≤ b → x ≤ y
at-most x y a b e k e0 k0 h j less = le_of_mul-le-mul_right {m = x} {n = y} {k = e} (let more = mul-le-mul_right k less in omega
    (arith, h, j, more)) e0

near-scaled : (one_sign : Bool) (x y z a b c e k : ℕ) → 0 < e → 0 < k → x * e ≡ a * k → y * e ≡ b * k → z * e ≡ c * k
    → AreNear one_sign a b c → AreNear one_sign x y z
near-scaled true x y z a b c e k e0 k0 h i j near =
    let first : (y + z) * e ≡ (b + c) * k = add-mul y z e ∙ (omega (arith, i, j, add-mul b c k)) in
    let second : (x + z) * e ≡ (a + c) * k = add-mul x z e ∙ (omega (arith, h, j, add-mul a c k)) in
    (at-most x (y + z) a (b + c) e k e0 k0 h first near.0, at-most y (x + z) b (a + c) e k e0 k0 i second near.1)
near-scaled false x y z a b c e k e0 k0 h i j near =
    let both : (x + y) * e ≡ (a + b) * k = add-mul x y e ∙ (omega (arith, h, i, add-mul a b k)) in
    at-most (x + y) z (a + b) c e k e0 k0 both j near

near-same : (one_sign : Bool) (x y z a b c e k : ℕ) → 0 < e → 0 < k → x * e ≡ a * k → y * e ≡ b * k → z * e ≡ c * k
    → AreNear one_sign a b c ↔ AreNear one_sign x y z
near-same one_sign x y z a b c e k e0 k0 h i j = (
  near-scaled one_sign x y z a b c e k e0 k0 h i j,
  near-scaled one_sign a b c x y z k e k0 e0 (sym h) (sym i) (sym j),
)

-- ---- signs

near-signed : (m n : Bool) (x y z : ℕ)
    → AreNear (beq m n) x y z ↔ ((signed m x ≤ℤ (signed n y +ℤ pos z)) × (signed n y ≤ℤ (signed m x +ℤ pos z)))
near-signed false false x y z = (
  λ h. (omega (arith, ints, h), omega (arith, ints, h)),
  λ h. (
    omega (arith, ints, h),
    omega
        (arith, ints, h),
  ),
)
near-signed false true x y z = (λ h. (omega (arith, ints, h), omega (arith, ints, h)), λ h. omega (arith, ints, h))
near-signed true false x y z = (λ h. (omega (arith, ints, h), omega (arith, ints, h)), λ h. omega (arith, ints, h))
near-signed true true x y z = (λ h. (omega (arith, ints, h), omega (arith, ints, h)), λ h. (omega (arith, ints, h), omega (arith, ints, h)))

-- ---- three fractions

pub near-within : (m n : Bool) (r s t : Ratio) (x y z a b c e k : ℕ) → r.numerator ≡ signed m x → s.numerator ≡ signed n y
    → t.numerator ≡ pos z → 0 < e → 0 < k → x * (s.denominator * t.denominator) * e ≡ a * k
    → y * (r.denominator * t.denominator) * e ≡ b * k → z * (r.denominator * s.denominator) * e ≡ c * k
    → AreNear (beq m n) a b c ↔ AreWithin r s t
near-within m n r s t x y z a b c e k p q o e0 k0 h i j =
    let first : r.numerator *ℤ pos (s.denominator * t.denominator) ≡ signed m (x * (s.denominator * t.denominator)) =
    ap (λ (v : ℤ). v *ℤ pos (s.denominator * t.denominator)) p ∙ signed-times m x (s.denominator * t.denominator) in
    let second : s.numerator *ℤ pos (r.denominator * t.denominator) ≡ signed n (y * (r.denominator * t.denominator)) =
    ap (λ (v : ℤ). v *ℤ pos (r.denominator * t.denominator)) q ∙ signed-times n y (r.denominator * t.denominator) in
    let third : t.numerator *ℤ pos (r.denominator * s.denominator) ≡ pos (z * (r.denominator * s.denominator)) =
    ap (λ (v : ℤ). v *ℤ pos (r.denominator * s.denominator)) o in
    let sizes = near-same (beq m n) (x * (s.denominator * t.denominator)) (y * (r.denominator * t.denominator))
    (z * (r.denominator * s.denominator)) a b c e k e0 k0 h i j in
    let signs = near-signed m n (x * (s.denominator * t.denominator)) (y * (r.denominator * t.denominator)) (z *
    (r.denominator * s.denominator)) in
    rw (first, second, third) (λ near. signs.0 (sizes.0 near), λ within. sizes.1 (signs.1 within))

-- ---- powers of ten

-- n times four powers is n times two, where the exponents make the same together
tens : (n u v w d b k : ℕ) → u + v + w + d ≡ b + k → n * 10 ^ u * (10 ^ v * 10 ^ w) * 10 ^ d ≡ n * 10 ^ b * 10 ^ k
tens n u v w d b k e =
    let left : 10 ^ u * 10 ^ v * 10 ^ w * 10 ^ d ≡ 10 ^ (u + v + w + d) = sym (pow-add 10 (u + v + w) d
    ∙ ap (λ x. x * 10 ^ d) (pow-add 10 (u + v) w ∙ ap (λ x. x * 10 ^ w) (pow-add 10 u v))) in
    let right : 10 ^ (b + k) ≡ 10 ^ b * 10 ^ k = pow-add 10 b k in
    gather n (10 ^ u) (10 ^ v) (10 ^ w) (10 ^ d) ∙ ap (λ (x : ℕ). n * x) (left ∙ ap (λ (i : ℕ). 10 ^ i) e ∙ right)
    ∙ spread n (10 ^ b) (10 ^ k)
  where
    gather : (n x y z v : ℕ) → n * x * (y * z) * v ≡ n * (x * y * z * v)
    gather n x y z v = grind arith

    spread : (n x y : ℕ) → n * (x * y) ≡ n * x * y
    spread n x y = grind arith

places-of : (e low : ℤ) (count b : ℕ) → pos b ≡ ((e -ℤ pos count) +ℤ pos 0) -ℤ low → b + (count + down e) + up low ≡ up e + down low
places-of e low count b h = omega (arith, ints, h)

places-of-share : (e p low : ℤ) (count b : ℕ) → pos b ≡ ((e -ℤ pos count) +ℤ p) -ℤ low
    → b + (down p + (count + down e)) + up low ≡ up p + up e + down low
places-of-share e p low count b h = omega (arith, ints, h)

-- ---- the digits of three numbers

-- how the sizes of two numbers and a third one so many times compare, all from one place on, is how the numbers do
pub near-numbers : (first second third : Digits) (t : Tolerance) (low : ℤ) (a b c p q r : ℕ)
    → pos a ≡ ((first.exponent -ℤ pos (length first.fraction.now)) +ℤ pos 0) -ℤ low
    → pos b ≡ ((second.exponent -ℤ pos (length second.fraction.now)) +ℤ pos 0) -ℤ low
    → pos c ≡ ((third.exponent -ℤ pos (length third.fraction.now)) +ℤ t.power) -ℤ low
    → p ≡ number (first.whole.now ++ first.fraction.now) * 10 ^ a → q ≡ number (second.whole.now ++ second.fraction.now) * 10 ^ b
    → r ≡ number (third.whole.now ++ third.fraction.now) * 10 ^ c → AreNear (beq first.negative second.negative) p q (t.units * r)
    ↔ AreWithin (number_of first) (number_of second) (share_of (tolerance_of t) (number_of third))
near-numbers first second third t low a b c p q r first_is second_is third_is first_value second_value third_value =
    let x = number (first.whole.now ++ first.fraction.now) in
    let y = number (second.whole.now ++ second.fraction.now) in
    let z = number (third.whole.now ++ third.fraction.now) in
    let u = length first.fraction.now + down first.exponent in
    let v = length second.fraction.now + down second.exponent in
    let w = length third.fraction.now + down third.exponent in
    let share = down t.power + w in
    let k = u + v + share + up low in
    let d = down low in
    let lower : 10 ^ down t.power * 10 ^ w ≡ 10 ^ share = sym (pow-add 10 (down t.power) w) in
    let first_same : x * 10 ^ up first.exponent * (10 ^ v * (10 ^ down t.power * 10 ^ w)) * 10 ^ d ≡ p * 10 ^ k =
    ap (λ (n : ℕ). x * 10 ^ up first.exponent * (10 ^ v * n) * 10 ^ d) lower
    ∙ tens x (up first.exponent) v share d a k (let e = places-of first.exponent low (length first.fraction.now) a first_is in omega
    (arith, e)) ∙ ap (λ (n : ℕ). n * 10 ^ k) (sym first_value) in
    let second_same : y * 10 ^ up second.exponent * (10 ^ u * (10 ^ down t.power * 10 ^ w)) * 10 ^ d ≡ q * 10 ^ k =
    ap (λ (n : ℕ). y * 10 ^ up second.exponent * (10 ^ u * n) * 10 ^ d) lower
    ∙ tens y (up second.exponent) u share d b k (let e = places-of second.exponent low (length second.fraction.now) b second_is in omega
    (arith, e)) ∙ ap (λ (n : ℕ). n * 10 ^ k) (sym second_value) in
    let third_same : t.units * 10 ^ up t.power * (z * 10 ^ up third.exponent) * (10 ^ u * 10 ^ v) * 10 ^ d ≡ t.units * r * 10 ^ k =
    ap (λ (n : ℕ). n * (10 ^ u * 10 ^ v) * 10 ^ d) (joined t.units (up t.power) z (up third.exponent))
    ∙ tens (t.units * z) (up t.power + up third.exponent) u v d c k
    (let e = places-of-share third.exponent t.power low (length third.fraction.now) c third_is in omega (arith, e))
    ∙ ap (λ (n : ℕ). n * 10 ^ k) (sym (apart t.units z (10 ^ c))) ∙ ap (λ (n : ℕ). t.units * n * 10 ^ k) (sym third_value) in
    let size : nat_abs (signed third.negative z *ℤ pos (10 ^ up third.exponent)) ≡ z * 10 ^ up third.exponent =
    abs_times (signed third.negative z) (10 ^ up third.exponent)
    ∙ ap (λ (n : ℕ). n * 10 ^ up third.exponent) (abs_signed third.negative z) in
    near-within first.negative second.negative (number_of first) (number_of second) (share_of (tolerance_of t) (number_of third))
    (x * 10 ^ up first.exponent) (y * 10 ^ up second.exponent) (t.units * 10 ^ up t.power * (z * 10 ^ up third.exponent)) p q (t.units * r)
    (10 ^ d) (10 ^ k) (signed-times first.negative x (10 ^ up first.exponent))
    (signed-times second.negative y (10 ^ up second.exponent)) (ap (λ (n : ℕ). pos (t.units * 10 ^ up t.power * n)) size)
    (one-le-pow d 10 (omega arith)) (one-le-pow k 10 (omega arith)) first_same second_same third_same
  where
    apart : (m n x : ℕ) → m * (n * x) ≡ m * n * x
    apart m n x = grind arith

    turned : (m x n y : ℕ) → m * x * (n * y) ≡ m * n * (x * y)
    turned m x n y = grind arith

    joined : (m i n j : ℕ) → m * 10 ^ i * (n * 10 ^ j) ≡ m * n * 10 ^ (i + j)
    joined m i n j = turned m (10 ^ i) n (10 ^ j) ∙ ap (λ x. m * n * x) (sym (pow-add 10 i j))
