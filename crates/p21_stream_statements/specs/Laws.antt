-- What the history of a reader says of the statement that is open.
use Rattle.std.specs.Prelude.{◌≡◌, true, None, List, ℕ, ◌++◌}
use Rattle.std.specs.List.{flat_map}
use Rattle.p21_grammar.specs.Stage.{is_in_data}
use Rattle.p21_spec_exchange.specs.Laying.{Lexeme, tokens_in}
use Rattle.p21_spec_exchange.specs.Statement.{statement_tokens}
use Rattle.p21_spec_survey.specs.Survey.{IsInData, IsOpen}
use Rattle.p21_spec_survey.specs.Whole.{AreWhole}
use Rattle.p21_stream_statements.specs.Reopening.{BeganAt}
use Rattle.p21_stream_statements.specs.StatementReader.{Held, IsLive, StatementHistory}

-- The bytes taken are whole statements, which are those given, and the bytes of the open one; what was held where it began stands for the
-- statements
pub record HasBegun (held : Held) (reading : StatementHistory) : Type 0 where
  pub earlier : Held
  pub began_at : BeganAt held earlier
  pub began : StatementHistory
  pub live : IsLive earlier began
  pub seen_is : began.seen ≡ None
  pub given_are : began.given ≡ reading.given
  pub own : List ℕ
  pub taken_are : reading.taken ≡ began.taken ++ own
  pub firsts : List Lexeme
  pub whole : AreWhole began.taken firsts
  pub tokens_are : tokens_in firsts ≡ flat_map statement_tokens reading.given
  pub open_ : IsOpen own

-- so it is of each reader that stands for a history
abbrev pub BeginsBehindStatements : Type 0
BeginsBehindStatements = (held : Held) (reading : StatementHistory) → IsLive held reading → HasBegun held reading

-- where it stands in a data section, one is open behind the statements given
abbrev pub StandsInData : Type 0
StandsInData = (held : Held) (reading : StatementHistory) → IsLive held reading → is_in_data held.parser.stage ≡ true
    → IsInData reading.given
