-- The bytes of a statement that hasn't ended, as a lexer takes them.
use Rattle.std.specs.Prelude.{◌≡◌, ℕ, List, None}
use Rattle.p21_spec_survey.specs.Survey.{IsOpen}
use Rattle.p21_stream_resume.specs.Lexing.{AreLexed}
use Rattle.p21_tokens.specs.Held.{Held}
use Rattle.p21_tokens.specs.Histories.{Stands, TokenHistory}
use Rattle.p21_tokens_automaton.specs.Reading.{State}

-- whole tokens, of which none is a `;`, and what is no whole token yet
pub record IsFront (bytes : List ℕ) : Type 0 where
  pub open_ : IsOpen bytes
  pub state : State
  pub lexed : AreLexed bytes state

-- a lexer has taken them, and has looked at no byte behind them
pub record HasTaken (bytes : List ℕ) (lexer : Held) : Type 0 where
  pub is_front : IsFront bytes
  pub history : TokenHistory
  pub stands : Stands lexer history
  pub alive : history.refusal ≡ None
  pub unseen : history.seen ≡ None
  pub taken_are : history.taken ≡ bytes
