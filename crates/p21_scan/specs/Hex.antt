-- Hex digits, and the numbers that they stand for (ISO 10303-21, clause 5: the basic alphabet).
use Rattle.std.specs.Prelude.{◌≡◌, ℕ, ◌-◌, ◌^◌, ◌<◌, ◌++◌, Bool, ◌&&◌, ◌||◌, IsTrue, List, [], ◌∷◌, nat_lt, nat_le, if◌then◌else◌}
use Rattle.p21_spec_basics.specs.Digits.{hex_digits}

-- `0` to `9` and `A` to `F`
abbrev pub is_hex_digit : ℕ → Bool
is_hex_digit byte = (nat_le 48 byte && nat_le byte 57) || (nat_le 65 byte && nat_le byte 70)

-- the number that a hex digit stands for
abbrev pub hex_value : ℕ → ℕ
hex_value byte = if nat_lt byte 58 then byte - 48 else byte - 55

abbrev pub AllHexDigits : List ℕ → Type 0
AllHexDigits [] = Unit {0}
AllHexDigits (byte ∷ bytes) = IsTrue (is_hex_digit byte) × AllHexDigits bytes

-- no hex digit stands at the front
abbrev pub NoHexDigitFirst : List ℕ → Type 0
NoHexDigitFirst [] = Unit {0}
NoHexDigitFirst (byte ∷ bytes) = ¬ IsTrue (is_hex_digit byte)

-- so many hex digits stand at the front, for this number
pub record IsGroupAt (count : ℕ) (bytes : List ℕ) (code : ℕ) (rest : List ℕ) : Type 0 where
  pub small : code < 16 ^ count
  pub bytes_are : bytes ≡ hex_digits count code ++ rest

-- fewer hex digits stand at the front
abbrev pub NoGroupAt : ℕ → List ℕ → Type 0
NoGroupAt count bytes = (code : ℕ) (rest : List ℕ) → IsGroupAt count bytes code rest → ⊥
