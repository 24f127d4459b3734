-- Binaries at the front of bytes, by their parts, and what stands behind them (ISO 10303-21, clause 6: tokens, binary).
use Rattle.std.specs.Prelude.{◌≡◌, ℕ, Bool, false, List, ◌++◌, map, replicate, take}
use Rattle.std.specs.List.{flat_map}
use Rattle.p21_spec_basics.specs.Digits.{hex_digit}
use Rattle.p21_spec_exchange.specs.Binary.{SpellsBits, four_bits}
use Rattle.p21_scan.specs.Hex.{hex_value}

-- bytes at the front spell bits, with this padding and these hex digits
pub record IsBinaryAt (bytes : List ℕ) (padding : ℕ) (digits rest : List ℕ) : Type 0 where
  pub front : List ℕ
  pub value : List Bool
  pub bytes_are : bytes ≡ front ++ rest
  pub spells : SpellsBits front value
  pub padding_is : padding ≡ spells.padding
  pub digits_are : digits ≡ map hex_digit spells.hex_values

-- no binary stands at the front
abbrev pub NoBinaryAt : List ℕ → Type 0
NoBinaryAt bytes = (padding : ℕ) (digits rest : List ℕ) → IsBinaryAt bytes padding digits rest → ⊥

-- the bits of hex digits, the padding among them
abbrev pub bits_of_digits : List ℕ → List Bool
bits_of_digits digits = flat_map four_bits (map hex_value digits)

-- so many bits of the digits are zero
abbrev pub IsPadded : ℕ → List ℕ → Type 0
IsPadded padding digits = take padding (bits_of_digits digits) ≡ replicate padding false
