-- A lexer that is taken back to where it rested, and stands behind other bytes as if they were separators: so reading goes on
-- behind a statement that is passed over (this project's own, on ISO 10303-21, tokens).
use Rattle.std.specs.Prelude.{◌≡◌, ℕ, ◌+◌, List, [], length, Option, Some, None, Result, Ok}
use Rattle.p21_spec_basics.specs.History.{extended}
use Rattle.p21_spec_exchange.specs.Separator.{IsSeparatorText}
use Rattle.p21_spec_exchange.specs.Token as meaning
use Rattle.p21_tokens.specs.Held.{Held, place_of}
use Rattle.p21_tokens.specs.Histories.{TokenHistory, Answers, KeepsLimits, Stands}
use Rattle.p21_tokens.specs.Passing.{IsResting, passing_call}
use Rattle.p21_tokens.specs.Steps.{behind_token}
use Rattle.p21_tokens.specs.Token.{meant}
use Rattle.p21_tokens.specs.declared.fault.TokenFault.{TokenFault}
use Rattle.p21_tokens.specs.declared.token.Token.{Token}

-- behind a `;` the lexer rests
abbrev pub RestsBehindSemicolon : Result (ℕ × Option Token) TokenFault → Held → Type 0
RestsBehindSemicolon (Ok (count, Some token)) new = meant token ≡ meaning.semicolon → IsResting new
RestsBehindSemicolon other new = Unit {0}

-- what is held in front of a byte of the file, where nothing is open and nothing was refused
abbrev pub reopened : Held → ℕ → Held
reopened old place = record (behind_token old 0 place) { refused = None }

-- Each history that the lexer stood for when it rested, under the same limits, goes on by separators up to the place
abbrev pub GivesReopened : Held → ℕ → Held → Type 0
GivesReopened old place new =
    (earlier : Held) (history : TokenHistory) (gap : List ℕ) → IsResting earlier → KeepsLimits earlier old → Stands earlier history → IsSeparatorText gap → place ≡ place_of earlier + length gap
    → Answers new (extended history (passing_call gap []))
