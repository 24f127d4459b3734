-- Characters of a string that stand in their canonical spellings.
use Rattle.std.specs.Prelude.{◌≡◌, ℕ, ◌<◌, ◌≤◌, List, ◌++◌, length, take}
use Rattle.std.specs.Char.{IsScalar}
use Rattle.std.specs.List.{flat_map, AllByRecursion as Each}
use Rattle.p21_spec_basics.specs.Digits.{hex_digits}
use Rattle.p21_spec_exchange.specs.Spelling.{character_spelling}
use Rattle.p21_spec_exchange.specs.Text.{end_extended}

-- so many bytes at the front are so many characters, each in its canonical spelling
pub record AreCharacters (bytes : List ℕ) (count size : ℕ) : Type 0 where
  pub characters : List ℕ
  pub are_scalars : Each IsScalar characters
  pub size_is : size ≡ length characters
  pub within : count ≤ length bytes
  pub bytes_are : take count bytes ≡ flat_map character_spelling characters

-- one group of four hex digits stands behind the beginning of an extended directive, and the end of the directive behind it
pub record IsLoneGroup (bytes : List ℕ) (character : ℕ) : Type 0 where
  pub scalar : IsScalar character
  pub small : character < 0x1_0000
  pub behind : List ℕ
  pub bytes_are : bytes ≡ hex_digits 4 character ++ (end_extended ++ behind)
