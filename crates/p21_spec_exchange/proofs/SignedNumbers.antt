-- Numbers with a sign: the sign and the number are known from what they stand for.
use Rattle.std.proofs.Common.{◌≡◌, ℕ, zero, suc, ◌*◌, ◌<◌, ℤ, pos, negsuc, ◌*ℤ◌, nat_abs, Bool, true, false, refl, ap, ◌∙◌, arith}
use Rattle.p21_spec_exchange.specs.Number.{Sign, none, minus, is_minus, signed}

pub signed-zero : (b : Bool) → signed b 0 ≡ pos 0
signed-zero false = refl
signed-zero true = refl

pub signed-times : (b : Bool) (x y : ℕ) → signed b x *ℤ pos y ≡ signed b (x * y)
signed-times false x y = refl
signed-times true zero y = let e : 0 * y ≡ 0 = omega arith in rw e
signed-times true (suc x) y = refl

pub abs_signed : (b : Bool) (n : ℕ) → nat_abs (signed b n) ≡ n
abs_signed false n = refl
abs_signed true zero = refl
abs_signed true (suc n) = refl

pub abs_times : (m : ℤ) (y : ℕ) → nat_abs (m *ℤ pos y) ≡ nat_abs m * y
abs_times (pos n) y = refl
abs_times (negsuc n) y = ap nat_abs (signed-times true (suc n) y) ∙ abs_signed true (suc n * y)

-- where a minus stands before no zero, both parts are known
pub signed_once : (m n : Bool) (x y : ℕ) → (m ≡ true → 0 < x) → (n ≡ true → 0 < y) → signed m x ≡ signed n y → (m ≡ n) × (x ≡ y)
signed_once false false x y h k e = (refl, cc)
signed_once false true x zero h k e = absurd (omega (arith, k refl))
signed_once false true x (suc y) h k e = cc
signed_once true false zero y h k e = absurd (omega (arith, h refl))
signed_once true false (suc x) y h k e = cc
signed_once true true zero y h k e = absurd (omega (arith, h refl))
signed_once true true (suc x) zero h k e = absurd (omega (arith, k refl))
signed_once true true (suc x) (suc y) h k e = (refl, cc)

-- the sign that a canonical spelling begins with
abbrev pub sign_of : ℤ → Sign
sign_of (pos n) = none
sign_of (negsuc n) = minus

pub signed_abs : (m : ℤ) → signed (is_minus (sign_of m)) (nat_abs m) ≡ m
signed_abs (pos n) = refl
signed_abs (negsuc n) = refl

pub minus_positive : (m : ℤ) → is_minus (sign_of m) ≡ true → 0 < nat_abs m
minus_positive (pos n) e = cc
minus_positive (negsuc n) e = omega arith
