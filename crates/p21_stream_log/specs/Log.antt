-- What a log of the reading of a file stands for (this project's own, on the tokens of ISO 10303-21).
--
-- The bytes that are read are those of the statements that ended, and those that are passed over. Behind them stand the bytes of the
-- statement that is open, or of one that has ended and isn't judged yet, and then those that are known and not taken. The reader of
-- statements has taken the kept bytes, with as many separators as bytes are passed over in their place: so each has its place in the file.
use Rattle.std.specs.Prelude.{◌≡◌, ◌≢◌, ◌↔◌, ◌-◌, ℕ, Bool, true, false, IsTrue, List, [], ◌∷◌, ◌++◌, length, take, drop, Option, Some, None, Result, Ok, Err}
use Rattle.std.specs.List.{flat_map, AllByRecursion as Each}
use Rattle.p21_grammar.specs.Statements.{statements_of}
use Rattle.p21_grammar.specs.declared.event.Event.{Event}
use Rattle.p21_spec_basics.specs.Digits.{IsByte}
use Rattle.p21_spec_basics.specs.Limits.{Limits}
use Rattle.p21_spec_exchange.specs.Laying.{Lexeme, tokens_in}
use Rattle.p21_spec_exchange.specs.Record.{Record}
use Rattle.p21_spec_exchange.specs.Statement.{Statement, instance, statement_tokens}
use Rattle.p21_spec_survey.specs.Rules.{Rules}
use Rattle.p21_spec_survey.specs.Landmark.{IsOpened}
use Rattle.p21_spec_survey.specs.Resuming.{HasNoneInside}
use Rattle.p21_spec_survey.specs.Survey.{AreStatement, IsRead, IsRefusedInstance, IsRight, Reading, leaving_out, nothing_read, taking}
use Rattle.p21_spec_survey.specs.Whole.{AreWhole}
use Rattle.p21_stream_statements.specs.PassingOver.{AreInstances}
use Rattle.p21_stream_statements.specs.Place.{HasPlace, place_behind}
use Rattle.p21_stream_statements.specs.Reopening.{IsBetweenStatements, StaysInStatement}
use Rattle.p21_stream_statements.specs.StatementReader as statements
use Rattle.p21_stream_statements.specs.StatementReader.{IsSeenAt, RefusesWithin, StatementHistory, limits_of}
use Rattle.p21_stream_statements.specs.declared.fault.Fault.{Fault}
use Rattle.p21_stream_statements.specs.declared.fault.Fault.TheVariants.{NoMemory}
use Rattle.p21_shorter_tokens.specs.Gaps.{PassesSeparators}

-- what is held: what the reader of statements holds, where the open statement may begin, its bytes, and whether a signpost may stand there
pub record Held : Type 0 where
  pub reader : statements.Held
  pub start : ℕ
  pub buffer : List ℕ
  pub opened : Bool

-- what is known of a file: its first bytes, and whether they are all of it
pub record Known : Type 0 where
  pub bytes : List ℕ
  pub is_all : Bool

-- the file is one of which this is known
abbrev pub IsFileOf : Known → List ℕ → Type 0
IsFileOf known file = Each IsByte file × elim known.is_all
    [ true ↦ file ≡ known.bytes | false ↦ (rest : List ℕ) × (file ≡ known.bytes ++ rest) ]

-- How far a file is read: what is read of it; the statement that has ended behind it and isn't judged yet, if one has; the byte that was
-- looked at, if one was; and the bytes behind the buffer that are known
pub record Point : Type 0 where
  pub read : Reading
  pub ended : List Statement
  pub seen : Option ℕ
  pub ahead : List ℕ

-- before anything is read of a file that begins so
abbrev pub at_start : List ℕ → Point
at_start ahead = record { read = nothing_read; ended = []; seen = None; ahead = ahead }

-- what the reader held where the open statement began, or the one that has ended: no statement was open, and it had taken these bytes and
-- given these statements
pub record BeganBehind (held : statements.Held) (taken : List ℕ) (given : List Statement) : Type 0 where
  pub earlier : statements.Held
  pub between_statements : IsBetweenStatements earlier
  pub same_limits : limits_of earlier ≡ limits_of held
  pub seen : Option ℕ
  pub was_live : statements.IsLive earlier (record { taken = taken; seen = seen; given = given })

-- What is held stands for this point in each file of which so much is known: so far it is read, and the buffer stands behind that, and the
-- bytes ahead
pub record Logs (s : Rules) (limits : Limits) (known : Known) (held : Held) (point : Point) : Type 0 where
  pub is_read : (file : List ℕ) → IsFileOf known file → IsRead s limits file point.read
  pub file_is : (file : List ℕ) → IsFileOf known file
      → (rest : List ℕ) × (file ≡ point.read.bytes ++ (held.buffer ++ (point.ahead ++ rest)))
  pub start_is : held.start ≡ length point.read.bytes
  pub opens : IsTrue held.opened ↔ IsOpened point.read.bytes
  pub history : StatementHistory
  pub live : statements.IsLive held.reader history
  pub limits_are : limits_of held.reader ≡ (limits.record_source, limits.file_source)
  pub seen_is : history.seen ≡ point.seen
  pub given_are : history.given ≡ point.read.given ++ point.ended
  pub between : point.ended ≢ [] → IsBetweenStatements held.reader
  -- the kept bytes as the reader took them: as many as are read, and the same statements
  pub gapped : List ℕ
  pub taken_are : history.taken ≡ gapped ++ held.buffer
  pub size : length gapped ≡ length point.read.bytes
  pub lexemes : List Lexeme
  pub gapped_whole : AreWhole gapped lexemes
  pub kept_whole : AreWhole point.read.kept lexemes
  pub tokens_are : tokens_in lexemes ≡ flat_map statement_tokens point.read.given
  pub began : BeganBehind held.reader gapped point.read.given

-- each of the files begins with these bytes
abbrev pub BeginSo : Known → List ℕ → Type 0
BeginSo known ahead = (file : List ℕ) → IsFileOf known file → (rest : List ℕ) × (file ≡ ahead ++ rest)

-- ---- a step

-- the last byte of some
abbrev pub EndsWith : ℕ → List ℕ → Type 0
EndsWith byte bytes = (front : List ℕ) × (bytes ≡ front ++ byte ∷ [])

-- the buffer has these bytes more
pub record Keeps (old : Held) (bytes : List ℕ) (new : Held) : Type 0 where
  pub start : new.start ≡ old.start
  pub buffer : new.buffer ≡ old.buffer ++ bytes

-- some bytes of a piece, if it has any, of which none but the last is a `;`
pub record IsOffered (piece bytes : List ℕ) : Type 0 where
  pub rest : List ℕ
  pub piece_is : piece ≡ bytes ++ rest
  pub some : piece ≢ [] → bytes ≢ []
  pub last : (front back : List ℕ) → bytes ≡ front ++ 59 ∷ back → back ≡ []

-- the point behind so many bytes of a piece, with which a statement may have ended
abbrev pub behind_token : Point → Option ℕ → List ℕ → ℕ → List ℕ → Option Event → Point
behind_token point seen piece count more event = record point { ended = statements_of event; seen = seen; ahead = drop count piece ++ more }

-- So many bytes of the piece were taken, with the `;` of a statement as the last of them where one has ended; and a byte may have been looked
-- at. They are none only where a token was given by the byte behind it, which is looked at now and wasn't before
pub record TakesToken (s : Rules) (limits : Limits) (known : Known) (point : Point) (piece more : List ℕ) (count : ℕ)
    (event : Option Event) (new : Held) : Type 0 where
  pub seen : Option ℕ
  pub seen_at : IsSeenAt seen piece count
  pub logs : Logs s limits known new (behind_token point seen piece count more event)
  pub ends : statements_of event ≢ [] → EndsWith 59 new.buffer
  pub moves : piece ≢ [] → count ≡ 0 → (statements_of event ≡ []) × (point.seen ≡ None) × (seen ≢ None)

-- A step was refused at a point: before it this was held but for what the reader holds, no file begins with the kept bytes, the buffer, and
-- some of the piece, and the statement that was open is open still; if it is the fault of a byte, the reader stands in front of this
pub record IsRefused (s : Rules) (limits : Limits) (known : Known) (point : Point) (piece : List ℕ) (fault : Fault) (new : Held) : Type
    0 where
  pub before : statements.Held
  pub logs : Logs s limits known (record { reader = before; start = new.start; buffer = new.buffer; opened = new.opened }) point
  pub refuses : RefusesWithin (limits_of before) fault logs.history piece
  pub place : HasPlace (limits_of before) logs.history.taken piece fault (place_behind new.reader)
  pub stays : StaysInStatement before new.reader

-- What a step gives, at each point that was stood for, with no statement that has ended and the piece ahead
abbrev pub StepGives : Held → List ℕ → Result (ℕ × Option Event) Fault → Held → Type 0
StepGives old piece (Ok (count, event)) new =
    (s : Rules) (limits : Limits) (known : Known) (point : Point) (more : List ℕ) → Logs s limits known old point → point.ended ≡ []
    → point.ahead ≡ piece ++ more → IsSeenAt point.seen piece 0
    → TakesToken s limits known point piece more count event new
StepGives old piece (Err fault) new =
    fault ≢ NoMemory → (s : Rules) (limits : Limits) (known : Known) (point : Point) (more : List ℕ) → Logs s limits known old point
    → point.ended ≡ []
    → point.ahead ≡ piece ++ more → IsSeenAt point.seen piece 0
    → IsRefused s limits known point piece fault new

-- the buffer has the bytes more that were taken; or it is as it was
abbrev pub StepKeeps : Held → List ℕ → Result (ℕ × Option Event) Fault → Held → Type 0
StepKeeps old piece (Ok (count, event)) new = Keeps old (take count piece) new
StepKeeps old piece (Err fault) new = fault ≢ NoMemory → (new.start ≡ old.start) × (new.buffer ≡ old.buffer)

-- ---- a statement that has ended

-- what is held where nothing of the buffer is open any more: the reader is as before, and the buffer begins anew behind its bytes
pub record Closes (old new : Held) : Type 0 where
  pub reader : new.reader ≡ old.reader
  pub start : new.start ≡ place_behind old.reader
  pub buffer : new.buffer ≡ []
  pub opened : new.opened ≡ true

-- the point behind a statement that is taken
abbrev pub behind_taken : Point → List ℕ → Statement → Point
behind_taken point bytes statement = record { read = taking point.read bytes statement; ended = []; seen = point.seen; ahead = point.ahead }

-- Of each point where a statement has ended with the last byte of the buffer: it is right there, and so it is taken
abbrev pub TakeGives : Held → Held → Type 0
TakeGives old new =
    (s : Rules) (limits : Limits) (known : Known) (point : Point) (statement : Statement) → Logs s limits known old point
    → point.ended ≡ statement ∷ []
    → EndsWith 59 old.buffer → IsRight s point.read.given statement
    → AreStatement old.buffer statement × Logs s limits known new (behind_taken point old.buffer statement)

-- ---- an instance that is refused

-- the open statement begins so many bytes behind the beginning of the file, separators apart
pub record BeginsBehind (held : Held) (begins : ℕ) : Type 0 where
  pub rest : List ℕ
  pub passes : PassesSeparators held.buffer rest
  pub begins_is : begins ≡ place_behind held.reader - length rest

-- the point behind an instance that is left out
abbrev pub behind_left_out : Point → List ℕ → ℕ → Record → ℕ → ℕ → Point
behind_left_out point bytes n record_ number begins =
    record { read = leaving_out point.read bytes n record_ number begins; ended = []; seen = point.seen; ahead = point.ahead }

-- Of each point where an instance has ended with the last byte of the buffer: it is refused there, and so it is left out; or a signpost
-- stands in a string of it, and nothing has changed
abbrev pub LeaveOutGives : Held → Option ℕ → Held → Type 0
LeaveOutGives old (Some begins) new =
    (s : Rules) (limits : Limits) (known : Known) (point : Point) (n : ℕ) (record_ : Record) (number : ℕ) → Logs s limits known old point
    → point.ended ≡ instance n record_ ∷ [] → EndsWith 59 old.buffer
    → IsRefusedInstance s point.read.given n record_ number
    → Logs s limits known new (behind_left_out point old.buffer n record_ number begins)
LeaveOutGives old None new =
    (new ≡ old) × ((s : Rules) (limits : Limits) (known : Known) (point : Point) (statement : Statement) (behind : List ℕ)
    → Logs s limits known old point → point.ended ≡ statement ∷ [] → EndsWith 59 old.buffer
    → ¬ HasNoneInside old.buffer behind)

-- ---- instances that are read elsewhere

-- the point behind an instance of which these bytes are
abbrev pub behind_passed : Point → ℕ → Record → List ℕ → Point
behind_passed point n record_ more = record { read = point.read; ended = instance n record_ ∷ []; seen = None; ahead = more }

-- of each point with no statement that has ended, where the bytes of an instance are ahead: it has ended behind them
abbrev pub PassGives : Held → List ℕ → Bool → Held → Type 0
PassGives old bytes true new =
    (s : Rules) (limits : Limits) (known : Known) (point : Point) (more : List ℕ) (n : ℕ) (record_ : Record)
    → Logs s limits known old point → point.ended ≡ []
    → point.ahead ≡ bytes ++ more → AreInstances bytes ((n, record_) ∷ [])
    → Logs s limits known new (behind_passed point n record_ more)
PassGives old bytes false new = new ≡ old
