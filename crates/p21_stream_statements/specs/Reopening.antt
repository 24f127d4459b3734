-- A lexer with a parser behind it that is taken back to where the open statement began, and stands behind other bytes as if they were
-- separators: so the reading goes on behind a statement that is passed over (this project's own, on the tokens and the formal
-- definition of ISO 10303-21).
use Rattle.std.specs.Prelude.{◌≡◌, ◌+◌, ℕ, List, ◌++◌, length, Option, Some, None, Result, Ok}
use Rattle.p21_spec_exchange.specs.Separator.{IsSeparatorText}
use Rattle.p21_grammar.specs.Reopening as grammar
use Rattle.p21_grammar.specs.declared.event.Event.{Event}
use Rattle.p21_stream_statements.specs.Place.{place_behind}
use Rattle.p21_stream_statements.specs.StatementReader.{Held, IsLive, StatementHistory, limits_of}
use Rattle.p21_stream_statements.specs.declared.fault.Fault.{Fault}
use Rattle.p21_tokens.specs.Passing as tokens

-- no statement is open: the lexer rests, and the parser stands between two statements
pub record IsBetweenStatements (held : Held) : Type 0 where
  pub lexer : tokens.IsResting held.lexer
  pub parser : grammar.IsBetweenStatements held.parser

-- the open statement began where this was held: no statement was open, and since then the limits and the stage of the file are the same
pub record BeganAt (held earlier : Held) : Type 0 where
  pub between : IsBetweenStatements earlier
  pub limits : limits_of earlier ≡ limits_of held
  pub stage : earlier.parser.stage ≡ held.parser.stage

-- the statement that was open is open still
abbrev pub StaysInStatement : Held → Held → Type 0
StaysInStatement old new = (earlier : Held) → BeganAt old earlier → BeganAt new earlier

-- behind a step the statement that was open is open still, also where something is refused; or it has ended, and none is open
abbrev pub StepBegins : Held → Result (Option (ℕ × Option Event)) Fault → Held → Type 0
StepBegins old (Ok (Some (count, Some event))) new = IsBetweenStatements new
StepBegins old other new = StaysInStatement old new

-- the history with separators behind it
abbrev pub with_gap : StatementHistory → List ℕ → StatementHistory
with_gap reading gap = record { taken = reading.taken ++ gap; seen = None; given = reading.given }

-- each history that was stood for where the open statement began goes on by separators up to the place
abbrev pub GivesReopened : Held → ℕ → Held → Type 0
GivesReopened old place new =
    (earlier : Held) (reading : StatementHistory) (gap : List ℕ) → BeganAt old earlier → IsLive earlier reading → IsSeparatorText gap
    → place ≡ place_behind earlier + length gap → IsLive new (with_gap reading gap)
