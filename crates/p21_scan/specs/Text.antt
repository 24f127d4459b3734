-- What stands inside a string, at the front of bytes, and what stands behind it (ISO 10303-21, clause 6: tokens, string).
use Rattle.std.specs.Prelude.{◌≡◌, ℕ, ◌+◌, List, ◌∷◌, ◌++◌}
use Rattle.p21_spec_exchange.specs.Text.{IsStringUnit, StringUnit, alphabet_a, arbitrary, doubled, page, unit_bytes}
use Rattle.p21_scan.specs.Digits.{BeginsWithoutByte}
use Rattle.p21_scan.specs.declared.text.Directive.{Directive}
use Rattle.p21_scan.specs.declared.text.Directive.TheVariants.{Doubled, Latin, Alphabet, Extended2, Extended4}

-- a unit stands at the front
pub record IsUnitAt (bytes : List ℕ) (unit : StringUnit) (rest : List ℕ) : Type 0 where
  pub is_unit : IsStringUnit unit
  pub bytes_are : bytes ≡ unit_bytes unit ++ rest

-- `\S\` with its byte or `\X\` with its digits stands at the front, for this character
pub data IsLatinAt (bytes : List ℕ) (character : ℕ) (rest : List ℕ) : Type 0 where
  by_page : (byte : ℕ) → character ≡ byte + 128 → IsUnitAt bytes (page byte) rest → IsLatinAt bytes character rest
  by_digits : IsUnitAt bytes (arbitrary character) rest → IsLatinAt bytes character rest

-- what a directive is: a whole unit, or the four bytes that begin an extended one
abbrev pub IsDirectiveAt : List ℕ → Directive → List ℕ → Type 0
IsDirectiveAt bytes (Doubled byte) rest = IsUnitAt bytes (doubled byte) rest
IsDirectiveAt bytes (Latin character) rest = IsLatinAt bytes character rest
IsDirectiveAt bytes Alphabet rest = IsUnitAt bytes alphabet_a rest
IsDirectiveAt bytes Extended2 rest = bytes ≡ 92 ∷ 88 ∷ 50 ∷ 92 ∷ rest
IsDirectiveAt bytes Extended4 rest = bytes ≡ 92 ∷ 88 ∷ 52 ∷ 92 ∷ rest

-- an apostrophe that ends a string stands first
pub record EndsText (bytes : List ℕ) : Type 0 where
  pub behind : List ℕ
  pub bytes_are : bytes ≡ 39 ∷ behind
  pub no_other : BeginsWithoutByte 39 behind
