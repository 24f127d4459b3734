-- Numbers as they are stored: a sign, and digits of which the first is no zero. Zero has no digits.
use Rattle.std.specs.Prelude.{◌≡◌, ℕ, ◌-◌, ◌<◌, ◌%◌, ℤ, pos, ◌-ℤ◌, Bool, true, List, [], ◌∷◌, length}
use Rattle.p21_spec_basics.specs.Digits.{AllDigits, number}
use Rattle.p21_spec_exchange.specs.Number.{Decimal, IsExponentInRange, signed}
use Rattle.p21_spec_exchange.specs.Spelling.{digits_with_point}
use Rattle.p21_scan.specs.Digits.{HasNoLeadingZero}

pub record IsStoredWhole (negative : Bool) (digits : List ℕ) : Type 0 where
  pub are_digits : AllDigits digits
  pub first : HasNoLeadingZero digits
  pub minus : negative ≡ true → 0 < length digits

-- digits of which the first stands before the point, and the exponent of that form
abbrev pub stored_decimal : Bool → List ℕ → ℤ → Decimal
stored_decimal negative digits exponent = record { significand = signed negative (number digits); exponent = exponent -ℤ pos (length digits - 1) }

-- no zero at either end: zero has no digits, no sign and the exponent 0
pub record IsStoredDecimal (negative : Bool) (digits : List ℕ) (exponent : ℤ) : Type 0 where
  pub are_digits : AllDigits digits
  pub first : HasNoLeadingZero digits
  pub last : number digits % 10 ≡ 0 → digits ≡ []
  pub minus : negative ≡ true → 0 < length digits
  pub zero : digits ≡ [] → exponent ≡ pos 0
  pub in_range : IsExponentInRange exponent

-- the stored digits, the first before the point
abbrev pub significand_spelling : List ℕ → List ℕ
significand_spelling [] = digits_with_point (48 ∷ [])
significand_spelling (digit ∷ digits) = digits_with_point (digit ∷ digits)
