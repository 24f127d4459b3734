-- Strings and their control directives: the characters that bytes stand for (ISO 10303-21, tokens: string).
use Rattle.std.specs.Prelude.{◌≡◌, ◌≢◌, ℕ, ◌+◌, ◌<◌, ◌≤◌, ◌⊎◌, List, [], ◌∷◌, ◌++◌, length, encode_utf8}
use Rattle.std.specs.Char.{IsScalar}
use Rattle.std.specs.Char.Escape.{encode_utf16}
use Rattle.std.specs.List.{flat_map, AllByRecursion as Each}
use Rattle.p21_spec_basics.specs.Digits.{hex_digits}

-- What may stand between the apostrophes of a string: an ignored byte; a byte that is its own character; a doubled
-- apostrophe or backslash; a character in UTF-8; or one of the control directives `\S\`, `\PA\`, `\X\`, `\X2\` and
-- `\X4\`, which the standard calls page, alphabet, arbitrary, extended2 and extended4
pub data StringUnit : Type 0 where
  ignored : ℕ → StringUnit
  plain : ℕ → StringUnit
  doubled : ℕ → StringUnit
  high_codepoint : ℕ → StringUnit
  page : ℕ → StringUnit
  alphabet_a : StringUnit
  arbitrary : ℕ → StringUnit
  extended2 : List ℕ → StringUnit
  extended4 : List ℕ → StringUnit

-- an apostrophe or a backslash
abbrev pub IsApostropheOrBackslash : ℕ → Type 0
IsApostropheOrBackslash byte = (byte ≡ 39) ⊎ (byte ≡ 92)

-- 20 to 7E
abbrev pub IsGraphic : ℕ → Type 0
IsGraphic byte = (32 ≤ byte) × (byte ≤ 126)

-- which bytes and characters each unit may have; the extended directives have one character or more
abbrev pub IsStringUnit : StringUnit → Type 0
IsStringUnit (ignored byte) = (byte < 32) ⊎ (byte ≡ 127)
IsStringUnit (plain byte) = IsGraphic byte × (byte ≢ 39) × (byte ≢ 92)
IsStringUnit (doubled byte) = IsApostropheOrBackslash byte
IsStringUnit (high_codepoint character) = (128 ≤ character) × IsScalar character
IsStringUnit (page byte) = IsGraphic byte
IsStringUnit alphabet_a = Unit {0}
IsStringUnit (arbitrary character) = character < 256
IsStringUnit (extended2 characters) = (0 < length characters) × Each IsScalar characters
IsStringUnit (extended4 characters) = (0 < length characters) × Each IsScalar characters

-- `\X0\`, which ends an extended directive
abbrev pub end_extended : List ℕ
end_extended = 92 ∷ 88 ∷ 48 ∷ 92 ∷ []

-- a character in UTF-16, four hex digits a group: past FFFF two groups, a high surrogate and a low one
abbrev pub utf16_groups : ℕ → List ℕ
utf16_groups character = flat_map (hex_digits 4) (encode_utf16 character)

-- the bytes of a unit
abbrev pub unit_bytes : StringUnit → List ℕ
unit_bytes (ignored byte) = byte ∷ []
unit_bytes (plain byte) = byte ∷ []
unit_bytes (doubled byte) = byte ∷ byte ∷ []
unit_bytes (high_codepoint character) = encode_utf8 character
unit_bytes (page byte) = 92 ∷ 83 ∷ 92 ∷ byte ∷ []
unit_bytes alphabet_a = 92 ∷ 80 ∷ 65 ∷ 92 ∷ []
unit_bytes (arbitrary character) = 92 ∷ 88 ∷ 92 ∷ hex_digits 2 character
unit_bytes (extended2 characters) = 92 ∷ 88 ∷ 50 ∷ 92 ∷ (flat_map utf16_groups characters ++ end_extended)
unit_bytes (extended4 characters) = 92 ∷ 88 ∷ 52 ∷ 92 ∷ (flat_map (hex_digits 8) characters ++ end_extended)

-- the characters that a unit stands for; `\S\` takes the upper half of ISO 8859-1
abbrev pub unit_characters : StringUnit → List ℕ
unit_characters (ignored byte) = []
unit_characters (plain byte) = byte ∷ []
unit_characters (doubled byte) = byte ∷ []
unit_characters (high_codepoint character) = character ∷ []
unit_characters (page byte) = (byte + 128) ∷ []
unit_characters alphabet_a = []
unit_characters (arbitrary character) = character ∷ []
unit_characters (extended2 characters) = characters
unit_characters (extended4 characters) = characters

-- the bytes between the apostrophes, and the characters that they stand for
pub record Encodes (bytes characters : List ℕ) : Type 0 where
  pub units : List StringUnit
  pub are_units : Each IsStringUnit units
  pub bytes_are : bytes ≡ flat_map unit_bytes units
  pub characters_are : characters ≡ flat_map unit_characters units

-- an apostrophe, bytes that stand for the characters, an apostrophe
pub record SpellsText (bytes characters : List ℕ) : Type 0 where
  pub inside : List ℕ
  pub bytes_are : bytes ≡ 39 ∷ (inside ++ (39 ∷ []))
  pub encodes : Encodes inside characters
