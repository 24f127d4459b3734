-- Bytes of a class at the front.
use Rattle.std.specs.Prelude.{◌≡◌, ℕ, ◌<◌, ◌≤◌, Bool, true, not, nat_le, ◌==◌, ◌&&◌, List, length, slice_index}
use Rattle.p21_spec_basics.specs.Digits.{is_digit}
use Rattle.p21_scan.specs.Bytes.{is_keyword_byte, is_blank}
use Rattle.p21_scan.specs.Hex.{is_hex_digit}
use Rattle.p21_scan.specs.declared.class.Class.{Class}
use Rattle.p21_scan.specs.declared.class.Class.TheVariants.{Blank, Commented, Digit, KeywordByte, HexDigit, Plain, CharacterByte}

-- the byte may be one of a character of a string in UTF-8
abbrev pub is_character_byte : ℕ → Bool
is_character_byte byte = nat_le 32 byte && not (byte == 39) && not (byte == 92) && not (byte == 127)

-- the bytes of a class, as a test
abbrev pub is_of_class : Class → ℕ → Bool
is_of_class Blank byte = is_blank byte
is_of_class Commented byte = not (byte == 42)
is_of_class Digit byte = is_digit byte
is_of_class KeywordByte byte = is_keyword_byte byte
is_of_class HexDigit byte = is_hex_digit byte
is_of_class CharacterByte byte = is_character_byte byte
is_of_class Plain byte = nat_le 32 byte && nat_le byte 126 && not (byte == 39) && not (byte == 92)

abbrev pub is_of_other_class : Class → ℕ → Bool
is_of_other_class of byte = not (is_of_class of byte)

-- so many bytes at the front are of the class
pub record AreOfClass (of : Class) (bytes : List ℕ) (count : ℕ) : Type 0 where
  pub within : count ≤ length bytes
  pub each : (k : ℕ) → k < count → is_of_class of (slice_index bytes k) ≡ true
