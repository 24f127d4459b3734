-- Whole numbers and reals, and the ratio that a real stands for (ISO 10303-21, clause 6: tokens, integer and real).
use Rattle.std.specs.Prelude.{◌≡◌, ℕ, ◌+◌, ◌*◌, ◌%◌, ◌^◌, ◌<◌, ◌≤◌, ℤ, pos, negsuc, ◌*ℤ◌, ◌≤ℤ◌, neg_ℤ, nat_abs, Bool, true, false, List, [], ◌∷◌, ◌++◌, length}
use Rattle.p21_spec_basics.specs.Digits.{AllDigits, number}
use borrow.Author.Differences.{up, down}

-- a sign, or none
pub data Sign : Type 0 where
  none : Sign
  plus : Sign
  minus : Sign

abbrev pub sign_bytes : Sign → List ℕ
sign_bytes none = []
sign_bytes plus = 43 ∷ []
sign_bytes minus = 45 ∷ []

abbrev pub is_minus : Sign → Bool
is_minus none = false
is_minus plus = false
is_minus minus = true

-- a number, negative or not: there is one zero
abbrev pub signed : Bool → ℕ → ℤ
signed false n = pos n
signed true n = neg_ℤ (pos n)

-- a sign or none, and one digit or more
pub record SpellsWhole (bytes : List ℕ) (value : ℤ) : Type 0 where
  pub sign : Sign
  pub digits : List ℕ
  pub bytes_are : bytes ≡ sign_bytes sign ++ digits
  pub some_digits : 0 < length digits
  pub are_digits : AllDigits digits
  pub value_is : value ≡ signed (is_minus sign) (number digits)

-- a fraction: a whole number over one that is not zero, which here is always a power of ten
pub record Ratio : Type 0 where
  pub numerator : ℤ
  pub denominator : ℕ

-- m * 10 ^ raised / 10 ^ lowered
abbrev pub scaled : ℤ → ℕ → ℕ → Ratio
scaled m raised lowered = record { numerator = m *ℤ pos (10 ^ raised); denominator = 10 ^ lowered }

-- equal ratios: the cross products are equal
abbrev pub SameRatio : Ratio → Ratio → Type 0
SameRatio r s = r.numerator *ℤ pos s.denominator ≡ s.numerator *ℤ pos r.denominator

-- a whole number as a ratio
abbrev pub whole_ratio : ℤ → Ratio
whole_ratio z = record { numerator = z; denominator = 1 }

-- 10 ^ k ≤ |r| < 10 ^ (k + 1), where k is `up k` less `down k`, one of which is 0. The ratio zero has none
pub record HasNormalisedExponent (r : Ratio) (k : ℤ) : Type 0 where
  pub low : 10 ^ up k * r.denominator ≤ nat_abs r.numerator * 10 ^ down k
  pub high : nat_abs r.numerator * 10 ^ down k < 10 * 10 ^ up k * r.denominator

-- -9999 to 9999
abbrev pub IsExponentInRange : ℤ → Type 0
IsExponentInRange k = (negsuc 9998 ≤ℤ k) × (k ≤ℤ pos 9999)

-- the normalised exponent, if there is one, is in range
abbrev pub IsInRange : Ratio → Type 0
IsInRange r = (k : ℤ) → HasNormalisedExponent r k → IsExponentInRange k

-- what may stand behind the fraction of a real: nothing, or `E`, a sign or none, and digits
pub data Exponent : Type 0 where
  no_exponent : Exponent
  exponent : Sign → List ℕ → Exponent

abbrev pub exponent_bytes : Exponent → List ℕ
exponent_bytes no_exponent = []
exponent_bytes (exponent sign digits) = 69 ∷ (sign_bytes sign ++ digits)

abbrev pub exponent_value : Exponent → ℤ
exponent_value no_exponent = pos 0
exponent_value (exponent sign digits) = signed (is_minus sign) (number digits)

abbrev pub IsExponent : Exponent → Type 0
IsExponent no_exponent = Unit {0}
IsExponent (exponent sign digits) = (0 < length digits) × AllDigits digits

-- at most nine digits apart from leading zeros
abbrev pub IsShortExponent : Exponent → Type 0
IsShortExponent no_exponent = Unit {0}
IsShortExponent (exponent sign digits) = number digits < 10 ^ 9

-- the form of a real, whatever its range: a sign or none, digits, a point, digits or none, and an exponent or none
pub record RealForm (bytes : List ℕ) : Type 0 where
  pub sign : Sign
  pub whole : List ℕ
  pub fraction : List ℕ
  pub power : Exponent
  pub bytes_are : bytes ≡ sign_bytes sign ++ (whole ++ (46 ∷ (fraction ++ exponent_bytes power)))
  pub some_digits : 0 < length whole
  pub are_digits : AllDigits whole
  pub are_fraction_digits : AllDigits fraction
  pub is_exponent : IsExponent power

-- the digits of both parts as one number, with its sign, times ten to the exponent less the length of the fraction
abbrev pub real_ratio : {bytes : List ℕ} → RealForm bytes → Ratio
real_ratio form =
    scaled (signed (is_minus form.sign) (number (form.whole ++ form.fraction))) (up (exponent_value form.power)) (length form.fraction + down (exponent_value form.power))

-- significand * 10 ^ exponent
pub record Decimal : Type 0 where
  pub significand : ℤ
  pub exponent : ℤ

abbrev pub ratio_of : Decimal → Ratio
ratio_of d = scaled d.significand (up d.exponent) (down d.exponent)

-- the one way to keep a number: the significand is no multiple of ten, or both are 0
abbrev pub IsReduced : Decimal → Type 0
IsReduced d = nat_abs d.significand % 10 ≡ 0 → (d.significand ≡ pos 0) × (d.exponent ≡ pos 0)

-- the form, in range as it is written and as it is meant, and the number of the same ratio
pub record SpellsReal (bytes : List ℕ) (value : Decimal) : Type 0 where
  pub form : RealForm bytes
  pub is_short : IsShortExponent form.power
  pub in_range : IsInRange (real_ratio form)
  pub is_reduced : IsReduced value
  pub same : SameRatio (real_ratio form) (ratio_of value)
