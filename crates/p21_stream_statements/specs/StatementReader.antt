-- What a lexer and a parser behind it have taken and answered (ISO 10303-21, tokens; formal definition of the exchange
-- structure).
use Rattle.std.specs.Prelude.{◌≡◌, ◌≢◌, ◌≤◌, ◌<◌, ◌+◌, ◌⊎◌, ℕ, List, [], ◌∷◌, ◌++◌, length, take, slice_get, Option, Some, None, Result, Ok, Err}
use Rattle.std.specs.List.{flat_map}
use Rattle.p21_spec_basics.specs.History.{empty}
use Rattle.p21_spec_exchange.specs.Laying.{Laid, tokens_in}
use Rattle.p21_spec_exchange.specs.OpenNesting.{IsDepth}
use Rattle.p21_spec_exchange.specs.Pending.{IsPending}
use Rattle.p21_spec_exchange.specs.Statement.{Statement, statement_tokens}
use Rattle.p21_spec_exchange.specs.Token.{Token}
use Rattle.p21_grammar.specs.Held as grammar_held
use Rattle.p21_grammar.specs.Histories as grammar
use Rattle.p21_grammar.specs.Histories.{GrammarHistory, BeginsFile, IsWholeFile}
use Rattle.p21_grammar.specs.Statements.{statements_of}
use Rattle.p21_grammar.specs.declared.event.Event.{Event}
use Rattle.p21_spec_survey.specs.Whole.{BeginsNone, BeginsNoneWithin}
use Rattle.p21_spec_syntax.specs.FileWithin.{IsNoFile}
use Rattle.p21_stream_statements.specs.declared.fault.Fault.{Fault}
use Rattle.p21_stream_statements.specs.declared.fault.Fault.TheVariants as faults
use Rattle.p21_stream_statements.specs.declared.fault.Fault.TheVariants.{NoMemory}
use Rattle.p21_tokens.specs.Held as tokens_held
use Rattle.p21_tokens.specs.Held.{file_limit_of, record_limit_of}
use Rattle.p21_tokens.specs.Histories as tokens
use Rattle.p21_tokens.specs.Histories.{AreSeparators, TokenHistory}
use Rattle.p21_tokens.specs.declared.fault.TokenFault.TheVariants as token_fault

-- what is held: what the lexer and what the parser holds
pub record Held : Type 0 where
  pub lexer : tokens_held.Held
  pub parser : grammar_held.Held

-- the most bytes of the tokens of a statement, and of a file
abbrev pub limits_of : Held → ℕ × ℕ
limits_of held = (record_limit_of held.lexer, file_limit_of held.lexer)

-- the bytes taken, the byte behind them if it was looked at, and the statements given; none of them was refused
pub record StatementHistory : Type 0 where
  pub taken : List ℕ
  pub seen : Option ℕ
  pub given : List Statement

abbrev pub nothing_read : StatementHistory
nothing_read = record { taken = []; seen = None; given = [] }

-- what was looked at
abbrev pub bytes_looked_at : StatementHistory → List ℕ
bytes_looked_at reading = reading.taken ++ elim reading.seen [ None ↦ [] | Some byte ↦ byte ∷ [] ]

-- the tokens that ended a statement are those of the statements given
pub record IsEndedBy (given : List Token) (depth : ℕ) (statements : List Statement) : Type 0 where
  pub depth_is : IsDepth given depth
  pub ended_are : depth_is.open_statement.ended ≡ flat_map statement_tokens statements

-- what is held stands for a history: the lexer took its bytes, the parser the tokens of these, and gave its statements
pub record IsLive (held : Held) (reading : StatementHistory) : Type 0 where
  pub history : TokenHistory
  pub lexer : tokens.Stands held.lexer history
  pub answered : (history ≡ empty) ⊎ tokens.Answers held.lexer history
  pub lexer_open : history.refusal ≡ None
  pub taken_are : history.taken ≡ reading.taken
  pub seen_is : history.seen ≡ reading.seen
  pub parsing : GrammarHistory
  pub parser : grammar.Stands held.parser parsing
  pub parser_open : parsing.refusal ≡ None
  pub tokens_are : parsing.taken ≡ history.given
  pub given_are : parsing.given ≡ reading.given
  pub given_first : grammar.AreGivenFirst parsing.taken reading.given
  pub ended_by : IsEndedBy parsing.taken held.parser.depth reading.given
  pub of_file : BeginsFile (flat_map statement_tokens reading.given) reading.given

-- the byte that was seen stands at this position of the piece
abbrev pub IsSeenAt : Option ℕ → List ℕ → ℕ → Type 0
IsSeenAt None piece place = Unit {0}
IsSeenAt (Some byte) piece place = slice_get piece place ≡ Some byte

-- a step goes on from a history of so many tokens: it took so many bytes of the piece and one more token, and gave these
-- statements
pub record TakesOneToken (old : StatementHistory) (tokens : ℕ) (piece : List ℕ) (count : ℕ) (given : List Statement) (held : Held) : Type
    0 where
  pub reading : StatementHistory
  pub live : IsLive held reading
  pub taken_are : reading.taken ≡ old.taken ++ take count piece
  pub given_are : reading.given ≡ old.given ++ given
  pub seen_at : IsSeenAt reading.seen piece count
  pub one_more : length live.history.given ≡ tokens + 1

-- why no file begins with these bytes, under whatever schema: none within the limit of a statement does, they are more than a file may
-- have, or none does, whatever its size
abbrev pub BeginsNoneBy : Fault → ℕ × ℕ → List ℕ → Type 0
BeginsNoneBy (faults.Token token_fault.RecordTooLong) limits bytes = BeginsNoneWithin limits.0 bytes
BeginsNoneBy (faults.Token token_fault.FileTooLong) limits bytes = limits.1 < length bytes
BeginsNoneBy fault limits bytes = BeginsNone bytes

-- a step refuses a byte, or the token that it follows: no file begins with the bytes up to it
pub record RefusesWithin (limits : ℕ × ℕ) (fault : Fault) (old : StatementHistory) (piece : List ℕ) : Type 0 where
  pub count : ℕ
  pub within : count ≤ length piece
  pub begins_none : BeginsNoneBy fault limits (old.taken ++ take count piece)

-- what a step gives, for each history that was stood for, where the byte that was seen is offered first
abbrev pub StepGives : Held → List ℕ → Result (Option (ℕ × Option Event)) Fault → Held → Type 0
StepGives old piece (Ok None) new = (reading : StatementHistory) → IsLive old reading → IsSeenAt reading.seen piece 0
    → IsLive new (record { taken = reading.taken ++ piece; seen = None; given = reading.given })
StepGives old piece (Ok (Some (count, event))) new = (reading : StatementHistory) (live : IsLive old reading)
    → IsSeenAt reading.seen piece 0 → TakesOneToken reading (length live.history.given) piece count (statements_of event) new
StepGives old piece (Err fault) new = fault ≢ NoMemory → (reading : StatementHistory) → IsLive old reading → IsSeenAt reading.seen piece 0
    → RefusesWithin (limits_of old) fault reading piece

-- so many bytes of the piece at most
abbrev pub TakesWithinPiece : List ℕ → Result (Option (ℕ × Option Event)) Fault → Type 0
TakesWithinPiece piece (Ok (Some answer)) = answer.0 ≤ length piece
TakesWithinPiece piece other = Unit {0}

-- neither a token nor want of memory
abbrev pub GivesNothing : Result (Option (ℕ × Option Event)) Fault → Type 0
GivesNothing (Ok None) = Unit {0}
GivesNothing (Ok (Some answer)) = ⊥
GivesNothing (Err fault) = fault ≢ NoMemory

-- between tokens, separators give no token and need no memory
abbrev pub NeedsNoMemory : Held → List ℕ → Result (Option (ℕ × Option Event)) Fault → Type 0
NeedsNoMemory old piece result = (reading : StatementHistory) → IsLive old reading → IsSeenAt reading.seen piece 0
    → IsPending reading.taken 0 → AreSeparators piece → GivesNothing result

-- the bytes have the tokens of a tree, and these are its statements
pub record AreWholeStatements (taken : List ℕ) (given : List Statement) : Type 0 where
  pub found : List Token
  pub laid : Laid taken found
  pub whole : IsWholeFile found given

-- what the end of the bytes gives, for each history that was stood for: what is refused is no file, under whatever schema
abbrev pub FinishGives : Held → Result (Unit {0}) Fault → Type 0
FinishGives held (Ok done) = (reading : StatementHistory) → IsLive held reading → reading.seen ≡ None
    → AreWholeStatements reading.taken reading.given
FinishGives held (Err fault) = fault ≢ NoMemory → (reading : StatementHistory) → IsLive held reading → reading.seen ≡ None
    → IsNoFile reading.taken

-- the token bytes of the statement that is open, and the lists and typed parameters that are open in it
pub record HasOpenStatement (reading : StatementHistory) (pending depth : ℕ) : Type 0 where
  pub pending_is : IsPending reading.taken pending
  pub depth_is : IsDepth (tokens_in pending_is.lexemes) depth
  pub ended_are : depth_is.open_statement.ended ≡ flat_map statement_tokens reading.given
