-- Binaries: the bits that hex digits stand for (ISO 10303-21, clause 6: tokens, binary).
use Rattle.std.specs.Prelude.{◌≡◌, ℕ, ◌+◌, ◌/◌, ◌%◌, ◌<◌, ◌==◌, Bool, false, List, [], ◌∷◌, ◌++◌, map, replicate}
use Rattle.std.specs.List.{flat_map, AllByRecursion as Each}
use Rattle.p21_spec_basics.specs.Digits.{hex_digit}

-- whether n, as bits, has the one that is worth so much
abbrev pub has_bit : ℕ → ℕ → Bool
has_bit worth n = n / worth % 2 == 1

-- the four bits of a hex digit, the highest first
abbrev pub four_bits : ℕ → List Bool
four_bits n = has_bit 8 n ∷ has_bit 4 n ∷ has_bit 2 n ∷ has_bit 1 n ∷ []

-- between quotes, a digit that counts the zero bits put at the left to fill the first hex digit, and the hex digits
pub record SpellsBits (bytes : List ℕ) (value : List Bool) : Type 0 where
  pub padding : ℕ
  pub hex_values : List ℕ
  pub padding_is : padding < 4
  pub are_hex_values : Each (λ n. n < 16) hex_values
  pub bytes_are : bytes ≡ 34 ∷ (48 + padding) ∷ (map hex_digit hex_values ++ (34 ∷ []))
  pub value_is : flat_map four_bits hex_values ≡ replicate padding false ++ value
