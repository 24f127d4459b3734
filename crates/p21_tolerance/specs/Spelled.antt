-- How a tolerance is given.
use Rattle.std.specs.Prelude.{◌≡◌, ◌⊎◌, ℕ, ◌+◌, ◌^◌, ◌<◌, ℤ, pos, ◌-ℤ◌, nat_abs, List, [], ◌∷◌, ◌++◌, length, Option, None, Some}
use Rattle.p21_spec_basics.specs.Digits.{AllDigits, number}
use Rattle.p21_spec_exchange.proofs.Forms.{NoDigitFirst}
use Rattle.p21_spec_exchange.specs.Number.{SpellsWhole}
use Rattle.p21_scan.specs.Digits.{BeginsWithoutByte}
use Rattle.p21_tolerance.specs.declared.tolerance.Tolerance.{Tolerance}

-- a point with the digits behind it, or neither
abbrev pub point_bytes : Option (List ℕ) → List ℕ
point_bytes None = []
point_bytes (Some fraction) = 46 ∷ fraction

abbrev pub fraction_of : Option (List ℕ) → List ℕ
fraction_of None = []
fraction_of (Some fraction) = fraction

-- nothing, which is 0, or `E` or `e` with a whole number of at most nine digits apart from the zeros in front
pub data IsPower : List ℕ → ℤ → Type 0 where
  no_power : IsPower [] (pos 0)
  power : (mark : ℕ) (bytes : List ℕ) (value : ℤ) → (mark ≡ 69) ⊎ (mark ≡ 101) → SpellsWhole bytes value → nat_abs value < 10 ^ 9
      → IsPower (mark ∷ bytes) value

-- digits, a point with digits behind it or none, and an exponent or none: the digits on both sides of the point as one number, which
-- has at most 18 apart from the zeros in front, times ten to the exponent less one for each digit behind the point
pub record SpellsTolerance (bytes : List ℕ) (tolerance : Tolerance) : Type 0 where
  pub whole : List ℕ
  pub point : Option (List ℕ)
  pub written : List ℕ
  pub exponent : ℤ
  pub bytes_are : bytes ≡ whole ++ (point_bytes point ++ written)
  pub some_digits : 0 < length whole + length (fraction_of point)
  pub are_digits : AllDigits whole
  pub are_fraction_digits : AllDigits (fraction_of point)
  pub is_short : length (fraction_of point) < 10 ^ 9
  pub is_power : IsPower written exponent
  pub units_are : tolerance.units ≡ number (whole ++ fraction_of point)
  pub are_few : tolerance.units < 10 ^ 18
  pub power_is : tolerance.power ≡ exponent -ℤ pos (length (fraction_of point))

-- a point and digits stand at the front, or no point, and what stands behind them
pub record IsFractionAt (bytes fraction rest : List ℕ) : Type 0 where
  pub point : Option (List ℕ)
  pub bytes_are : bytes ≡ point_bytes point ++ rest
  pub fraction_is : fraction ≡ fraction_of point
  pub are_digits : AllDigits fraction
  pub ends : NoDigitFirst rest
  pub alone : point ≡ None → BeginsWithoutByte 46 rest
