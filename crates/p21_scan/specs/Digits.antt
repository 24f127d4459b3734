-- Digits without the zeros at their ends, and bytes without a certain one in front.
use Rattle.std.specs.Prelude.{◌≡◌, ◌≢◌, ℕ, ◌-◌, ◌*◌, ◌^◌, ◌%◌, ◌≤◌, List, [], ◌∷◌, length, take}
use Rattle.p21_spec_basics.specs.Digits.{AllDigits, number}

-- the bytes do not begin with a zero
abbrev pub HasNoLeadingZero : List ℕ → Type 0
HasNoLeadingZero [] = Unit {0}
HasNoLeadingZero (byte ∷ bytes) = byte ≢ 48

-- digits without the zeros in front, which are none for the number zero
pub record WithoutLeadingZeros (digits kept : List ℕ) : Type 0 where
  pub are_digits : AllDigits kept
  pub first : HasNoLeadingZero kept
  pub same : number kept ≡ number digits

-- digits without the zeros at the end, which count as tens
pub record WithoutTrailingZeros (digits kept : List ℕ) : Type 0 where
  pub front : kept ≡ take (length kept) digits
  pub shorter : length kept ≤ length digits
  pub last : number kept % 10 ≡ 0 → kept ≡ []
  pub same : number digits ≡ number kept * 10 ^ (length digits - length kept)

-- the bytes do not begin with this one
abbrev pub BeginsWithoutByte : ℕ → List ℕ → Type 0
BeginsWithoutByte first [] = Unit {0}
BeginsWithoutByte first (byte ∷ bytes) = byte ≢ first
