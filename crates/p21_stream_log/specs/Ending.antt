-- What the end of the file gives.
use Rattle.std.specs.Prelude.{◌≡◌, ◌≢◌, ◌≤◌, ℕ, true, List, [], ◌++◌, length, None, Result, Ok, Err}
use Rattle.p21_spec_basics.specs.Limits.{Limits}
use Rattle.p21_spec_exchange.specs.Grammar.{InGrammar}
use Rattle.p21_spec_exchange.specs.Laying.{AreStatementsWithin}
use Rattle.p21_spec_exchange.specs.Statement.{Statement}
use Rattle.p21_spec_exchange.specs.Structure.{Structure, statements}
use Rattle.p21_spec_survey.specs.Rules.{Rules}
use Rattle.p21_spec_survey.specs.Resuming.{EndsInRemark, EndsInString}
use Rattle.p21_spec_syntax.specs.FileWithin.{IsNoFile}
use Rattle.p21_stream_log.specs.Log.{Held, IsFileOf, Known, Logs, Point}
use Rattle.p21_stream_resume.specs.Lexing.{AreLexed}
use Rattle.p21_stream_statements.specs.declared.fault.Fault.{Fault}
use Rattle.p21_stream_statements.specs.declared.fault.Fault.TheVariants.{NoMemory}
use Rattle.p21_tokens.specs.Histories.{IsUnlaid}
use Rattle.p21_tokens_automaton.specs.Reading.{State}

-- the bytes are a file with these statements, each of them within the limit of a statement
pub record AreFileOf (most : ℕ) (bytes : List ℕ) (given : List Statement) : Type 0 where
  pub structure : Structure
  pub schema : List ℕ
  pub in_grammar : InGrammar bytes structure schema
  pub statements_are : statements structure ≡ given
  pub within : AreStatementsWithin most 0 in_grammar.laid.lexemes

-- Of each point with no statement that has ended, and no byte that was looked at: the kept bytes, with those behind them, are a file with
-- the statements given, and no more bytes are read than a file may have; or they are none
abbrev pub EndGives : Held → Result (Unit {0}) Fault → Type 0
EndGives held (Ok done) =
    (s : Rules) (limits : Limits) (known : Known) (point : Point) → Logs s limits known held point → point.ended ≡ [] → point.seen ≡ None
    → AreFileOf limits.record_source (point.read.kept ++ held.buffer) point.read.given
    × (length (point.read.bytes ++ held.buffer) ≤ limits.file_source)
EndGives held (Err fault) =
    fault ≢ NoMemory → (s : Rules) (limits : Limits) (known : Known) (point : Point) → Logs s limits known held point → point.ended ≡ []
    → point.seen ≡ None
    → IsNoFile (point.read.kept ++ held.buffer)

-- No tokens are laid in these bytes of a statement, which a lexer takes: with number 2 they end in a string, and with 3 in a remark
pub record EndsWithin (bytes : List ℕ) (number : ℕ) : Type 0 where
  pub unlaid : IsUnlaid bytes
  pub in_string : number ≡ 2 → EndsInString bytes
  pub in_remark : number ≡ 3 → (inside : List ℕ) × EndsInRemark bytes inside
  pub state : State
  pub lexed : AreLexed bytes state

-- each of the files ends behind these bytes, with what is read of it in front
abbrev pub EndsBehind : Known → Point → List ℕ → Type 0
EndsBehind known point bytes = (file : List ℕ) → IsFileOf known file → file ≡ point.read.bytes ++ bytes

-- what is known of the files is all of them, and so many bytes
abbrev pub IsAllOf : Known → ℕ → Type 0
IsAllOf known size = (known.is_all ≡ true) × (length known.bytes ≡ size)
