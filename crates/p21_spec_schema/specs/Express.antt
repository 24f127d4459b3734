-- Lexical elements of EXPRESS, here lexemes: identifiers, digits, string literals and symbols (ISO 10303-11, Lexical elements).
use Rattle.std.specs.Prelude.{◌≡◌, ◌≢◌, ℕ, ◌-◌, ◌<◌, ◌≤◌, ◌⊎◌, List, [], ◌∷◌, ◌++◌, length, map, nat_le, if◌then◌else◌, ◌&&◌, ◌==◌}
use Rattle.std.specs.List.{flat_map, AllByRecursion as Each}
use Rattle.p21_spec_basics.specs.Digits.{IsDigit, AllDigits}

-- An identifier or reserved word in upper case, digits, what a simple or an encoded string literal has between its marks,
-- or any other printing byte
pub data Lexeme : Type 0 where
  identifier : List ℕ → Lexeme
  digits : List ℕ → Lexeme
  simple_string : List ℕ → Lexeme
  encoded_string : List ℕ → Lexeme
  symbol : ℕ → Lexeme

-- `A` to `Z` or `a` to `z`
abbrev pub IsLetter : ℕ → Type 0
IsLetter byte = ((65 ≤ byte) × (byte ≤ 90)) ⊎ ((97 ≤ byte) × (byte ≤ 122))

-- a letter, a digit or `_`
abbrev pub IsIdentifierByte : ℕ → Type 0
IsIdentifierByte byte = IsLetter byte ⊎ IsDigit byte ⊎ (byte ≡ 95)

-- the upper case of a letter; any other byte as it is
abbrev pub upper : ℕ → ℕ
upper byte = if nat_le 97 byte && nat_le byte 122 then byte - 32 else byte

-- a letter, then letters, digits and `_`
abbrev pub IsIdentifier : List ℕ → Type 0
IsIdentifier [] = ⊥
IsIdentifier (byte ∷ bytes) = IsLetter byte × Each IsIdentifierByte bytes

-- within a simple string literal an apostrophe stands twice
abbrev pub quote_twice : ℕ → List ℕ
quote_twice byte = if byte == 39 then 39 ∷ 39 ∷ [] else byte ∷ []

-- the bytes that a lexeme is written with: 39 is an apostrophe, 34 a quotation mark, 33 to 126 are the printing bytes
abbrev pub SpellsLexeme : Lexeme → List ℕ → Type 0
SpellsLexeme (identifier name) bytes = IsIdentifier bytes × (name ≡ map upper bytes)
SpellsLexeme (digits ds) bytes = (bytes ≡ ds) × (0 < length ds) × AllDigits ds
SpellsLexeme (simple_string inside) bytes = bytes ≡ 39 ∷ flat_map quote_twice inside ++ 39 ∷ []
SpellsLexeme (encoded_string inside) bytes = (bytes ≡ 34 ∷ inside ++ 34 ∷ []) × Each (λ byte. byte ≢ 34) inside
SpellsLexeme (symbol byte) bytes = (bytes ≡ byte ∷ []) × (33 ≤ byte) × (byte ≤ 126) × ¬ IsLetter byte × ¬ IsDigit byte × (byte ≢ 39) × (byte ≢ 34)

-- the byte behind a lexeme, where there is one: `(` and `*` begin a remark, and so do two `-`
abbrev pub LexemeMayFollow : Lexeme → ℕ → Type 0
LexemeMayFollow (identifier name) byte = ¬ IsIdentifierByte byte
LexemeMayFollow (digits ds) byte = ¬ IsDigit byte
LexemeMayFollow (simple_string inside) byte = byte ≢ 39
LexemeMayFollow (encoded_string inside) byte = Unit {0}
LexemeMayFollow (symbol s) byte = (s ≡ 40 → byte ≢ 42) × (s ≡ 45 → byte ≢ 45)
