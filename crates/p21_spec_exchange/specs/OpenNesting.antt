-- How many lists and typed parameters are open behind some tokens (ISO 10303-21, formal definition of the exchange
-- structure: parameter list).
use Rattle.std.specs.Prelude.{◌≡◌, ◌≢◌, ℕ, ◌-◌, suc, List, [], ◌∷◌, ◌++◌}
use Rattle.std.specs.List.{AllByRecursion as Each}
use Rattle.p21_spec_exchange.specs.Token.{Token, name, left, right, semicolon, equals}

-- how many parentheses open
abbrev pub left_count : List Token → ℕ
left_count [] = 0
left_count (left ∷ tokens) = suc (left_count tokens)
left_count (other ∷ tokens) = left_count tokens

-- how many parentheses close
abbrev pub right_count : List Token → ℕ
right_count [] = 0
right_count (right ∷ tokens) = suc (right_count tokens)
right_count (other ∷ tokens) = right_count tokens

-- the open parentheses of a statement that begins so, apart from those of a simple record and of an external mapping
abbrev pub open_depth : List Token → ℕ
open_depth (name n ∷ equals ∷ left ∷ tokens) = left_count tokens - right_count tokens - 1
open_depth tokens = left_count tokens - right_count tokens - 1

-- no tokens, or some of which the last is `;`
abbrev pub EndsWithSemicolon : List Token → Type 0
EndsWithSemicolon [] = Unit {0}
EndsWithSemicolon (token ∷ []) = token ≡ semicolon
EndsWithSemicolon (token ∷ next ∷ tokens) = EndsWithSemicolon (next ∷ tokens)

-- a token that is no `;`
abbrev pub IsNoSemicolon : Token → Type 0
IsNoSemicolon token = token ≢ semicolon

-- the open statement of some tokens: those behind the last `;`
pub record IsOpenStatement (given opened : List Token) : Type 0 where
  pub ended : List Token
  pub given_are : given ≡ ended ++ opened
  pub ends : EndsWithSemicolon ended
  pub no_semicolon : Each IsNoSemicolon opened

-- the lists and typed parameters that are open behind the tokens given
pub record IsDepth (given : List Token) (depth : ℕ) : Type 0 where
  pub opened : List Token
  pub open_statement : IsOpenStatement given opened
  pub depth_is : depth ≡ open_depth opened
