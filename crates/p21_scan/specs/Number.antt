-- Numbers at the front of bytes, by their parts, and what stands behind them (ISO 10303-21, clause 6: tokens, integer and
-- real).
use Rattle.std.specs.Prelude.{◌≡◌, ℕ, ◌<◌, ℤ, Bool, Option, Some, None, List, ◌∷◌, ◌++◌, length}
use Rattle.p21_spec_basics.specs.Digits.{AllDigits}
use Rattle.p21_spec_exchange.proofs.Forms.{NoDigitFirst}
use Rattle.p21_spec_exchange.specs.Number.{Exponent, IsExponent, IsShortExponent, Sign, exponent, exponent_bytes, exponent_value, is_minus, no_exponent, sign_bytes}
use Rattle.p21_scan.specs.Digits.{BeginsWithoutByte}
use Rattle.p21_scan.specs.declared.number.Integer.{Integer}
use Rattle.p21_scan.specs.declared.number.Decimals.{Decimals}
use Rattle.p21_scan.specs.declared.number.Number.{Number}

-- a sign or none, and one digit or more; no digit stands behind them
pub record IsIntegerAt (bytes : List ℕ) (negative : Bool) (digits rest : List ℕ) : Type 0 where
  pub sign : Sign
  pub bytes_are : bytes ≡ sign_bytes sign ++ (digits ++ rest)
  pub negative_is : negative ≡ is_minus sign
  pub some_digits : 0 < length digits
  pub are_digits : AllDigits digits
  pub ends : NoDigitFirst rest

-- no digit stands at the front, nor behind a sign there
abbrev pub NoIntegerAt : List ℕ → Type 0
NoIntegerAt bytes = (negative : Bool) (digits rest : List ℕ) → IsIntegerAt bytes negative digits rest → ⊥

-- no exponent stands at the front
abbrev pub NoExponentAt : List ℕ → Type 0
NoExponentAt bytes = (written : List ℕ) → bytes ≡ 69 ∷ written → NoIntegerAt written

-- the exponent that is found, as the definitions have it
abbrev pub HasExponent : Option Integer → Exponent → Type 0
HasExponent None power = power ≡ no_exponent
HasExponent (Some found) power = (sign : Sign) × (power ≡ exponent sign found.digits.now) × (found.negative ≡ is_minus sign)

-- an exponent or none; neither a digit nor, where there is none, an exponent stands behind
pub record IsExponentAt (bytes : List ℕ) (power : Exponent) (rest : List ℕ) : Type 0 where
  pub bytes_are : bytes ≡ exponent_bytes power ++ rest
  pub is_exponent : IsExponent power
  pub ends : NoDigitFirst rest
  pub alone : power ≡ no_exponent → NoExponentAt rest

-- a sign or none, digits, a point, digits or none, and an exponent or none
pub record IsRealAt (bytes : List ℕ) (negative : Bool) (whole fraction : List ℕ) (power : Exponent) (rest : List ℕ) : Type 0 where
  pub behind : List ℕ
  pub whole_at : IsIntegerAt bytes negative whole (46 ∷ (fraction ++ behind))
  pub are_digits : AllDigits fraction
  pub no_digit : NoDigitFirst behind
  pub power_at : IsExponentAt behind power rest

-- what stands from a point on, where one stands at the front
abbrev pub AreDecimalsAt : List ℕ → Option Decimals → List ℕ → Type 0
AreDecimalsAt bytes None rest = BeginsWithoutByte 46 bytes × (rest ≡ bytes)
AreDecimalsAt bytes (Some found) rest =
    (behind : List ℕ) × (power : Exponent) × (bytes ≡ 46 ∷ (found.fraction.now ++ behind)) × AllDigits found.fraction.now × NoDigitFirst behind
    × HasExponent found.exponent power × IsExponentAt behind power rest

-- an integer with no point behind it, or a real
abbrev pub HasDecimals : List ℕ → Bool → List ℕ → Option Decimals → List ℕ → Type 0
HasDecimals bytes negative whole None rest = IsIntegerAt bytes negative whole rest × BeginsWithoutByte 46 rest
HasDecimals bytes negative whole (Some found) rest = (power : Exponent) × HasExponent found.exponent power × IsRealAt bytes negative whole found.fraction.now power rest

abbrev pub IsNumberAt : List ℕ → Number → List ℕ → Type 0
IsNumberAt bytes found rest = HasDecimals bytes found.negative found.whole.now found.decimals rest

-- the value of an exponent of at most nine digits apart from leading zeros, where it has no more
abbrev pub ReadsExponent : Exponent → Option ℤ → Type 0
ReadsExponent power (Some value) = IsShortExponent power × (value ≡ exponent_value power)
ReadsExponent power None = IsShortExponent power → ⊥
