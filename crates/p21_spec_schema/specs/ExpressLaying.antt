-- How the lexical elements of EXPRESS are laid in a text (ISO 10303-11, Lexical elements and Remarks).
use Rattle.std.specs.Prelude.{◌≡◌, ℕ, List, [], ◌∷◌, ◌++◌}
use Rattle.p21_spec_schema.specs.Express.{Lexeme, SpellsLexeme, LexemeMayFollow}
use Rattle.p21_spec_schema.specs.Remark.{IsSeparatorText, IsLastSeparatorText}

-- the end of the text is allowed behind each lexeme
abbrev pub LexemeIsFollowed : Lexeme → List ℕ → Type 0
LexemeIsFollowed lexeme [] = Unit {0}
LexemeIsFollowed lexeme (byte ∷ bytes) = LexemeMayFollow lexeme byte

-- the bytes are separator text and the spellings of the lexemes in turn, separator text first and last
abbrev pub LaidLexemes : List Lexeme → List ℕ → Type 0
LaidLexemes [] bytes = IsLastSeparatorText bytes
LaidLexemes (lexeme ∷ lexemes) bytes = (gap spelling rest : List ℕ) × (bytes ≡ gap ++ spelling ++ rest) × IsSeparatorText gap × SpellsLexeme lexeme spelling × LexemeIsFollowed lexeme rest × LaidLexemes lexemes rest
