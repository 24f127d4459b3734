-- How tokens are laid in bytes (ISO 10303-21, clause 6: tokens, and clause 5: token separators).
use Rattle.std.specs.Prelude.{◌≡◌, ℕ, ◌+◌, ◌≤◌, List, [], ◌∷◌, ◌++◌, length, map}
use Rattle.p21_spec_exchange.specs.Separator.{IsSeparatorText}
use Rattle.p21_spec_exchange.specs.Token.{IsFollowed, IsScalarToken, Spells, Token, semicolon}

-- a token with the number of bytes of its spelling
pub record Lexeme : Type 0 where
  pub token : Token
  pub size : ℕ

-- the bytes are separator text and spellings in turn, of these tokens and sizes, separator text first and last
abbrev pub LaidAs : List ℕ → List Lexeme → Type 0
LaidAs bytes [] = IsSeparatorText bytes
LaidAs bytes (lexeme ∷ lexemes) =
    (gap spelling rest : List ℕ) × (bytes ≡ gap ++ (spelling ++ rest)) × IsSeparatorText gap
    × Spells lexeme.token spelling × (lexeme.size ≡ length spelling) × IsFollowed lexeme.token spelling rest × LaidAs rest lexemes

abbrev pub tokens_in : List Lexeme → List Token
tokens_in lexemes = map (λ lexeme. lexeme.token) lexemes

-- the tokens are laid in the bytes
pub record Laid (bytes : List ℕ) (tokens : List Token) : Type 0 where
  pub lexemes : List Lexeme
  pub tokens_are : tokens_in lexemes ≡ tokens
  pub laid : LaidAs bytes lexemes

-- the token bytes of the open statement, where `count` of them stand before this token: a statement ends with its `;`
abbrev pub count_behind : ℕ → Lexeme → ℕ
count_behind count lexeme = elim lexeme.token [ semicolon ↦ 0 | _ ↦ count + lexeme.size ]

-- the token bytes behind the last `;`, where `count` stand before these tokens
abbrev pub open_bytes : ℕ → List Lexeme → ℕ
open_bytes count [] = count
open_bytes count (lexeme ∷ lexemes) = open_bytes (count_behind count lexeme) lexemes

-- each statement, its `;` included, has at most `most` token bytes; `count` of the first stand before these tokens
abbrev pub AreStatementsWithin : ℕ → ℕ → List Lexeme → Type 0
AreStatementsWithin most count [] = Unit {0}
AreStatementsWithin most count (lexeme ∷ lexemes) = (count + lexeme.size ≤ most) × AreStatementsWithin most (count_behind count lexeme) lexemes

-- the text is one scalar token between separators
abbrev pub HoldsScalar : List ℕ → Token → Type 0
HoldsScalar bytes token = IsScalarToken token × Laid bytes (token ∷ [])
