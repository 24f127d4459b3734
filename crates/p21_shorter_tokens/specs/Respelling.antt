-- Characters of a string that are read in any spelling, and appended in their canonical ones.
use Rattle.std.specs.Prelude.{◌≡◌, ℕ, ◌^◌, ◌<◌, ◌≤◌, List, ◌++◌, length, take, drop}
use Rattle.std.specs.Char.{IsScalar}
use Rattle.std.specs.List.{flat_map, AllByRecursion as Each}
use Rattle.p21_spec_exchange.specs.Spelling.{character_spelling}
use Rattle.p21_spec_basics.specs.Digits.{hex_digits}
use Rattle.p21_spec_exchange.specs.Text.{Encodes, end_extended}
use Rattle.p21_scan.specs.Text.{EndsText}

-- so many bytes at the front stand for so many characters, whose canonical spellings are appended
pub record Respells (StandFor : List ℕ → List ℕ → Type 0) (bytes : List ℕ) (count size : ℕ) (old new : List ℕ) : Type 0 where
  pub characters : List ℕ
  pub size_is : size ≡ length characters
  pub fewer : size ≤ count
  pub within : count ≤ length bytes
  pub stand_for : StandFor (take count bytes) characters
  pub appended : new ≡ old ++ flat_map character_spelling characters

-- these are all up to the apostrophe that ends the string
pub record RespellsAll (bytes : List ℕ) (count size : ℕ) (old new : List ℕ) : Type 0 where
  pub respells : Respells Encodes bytes count size old new
  pub ends : EndsText (drop count bytes)

-- the bytes are the groups of so many digits of these characters
pub record AreGroups (width : ℕ) (bytes characters : List ℕ) : Type 0 where
  pub scalars : Each IsScalar characters
  pub small : Each (λ c. c < 16 ^ width) characters
  pub bytes_are : bytes ≡ flat_map (hex_digits width) characters

-- the bytes are one such group or more, and the end of an extended directive
pub record AreExtended (width : ℕ) (bytes characters : List ℕ) : Type 0 where
  pub front : List ℕ
  pub groups : AreGroups width front characters
  pub some : 0 < length characters
  pub bytes_are : bytes ≡ front ++ end_extended
