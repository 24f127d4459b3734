-- The next token of a file (this project's own).
use Rattle.std.specs.Prelude.{◌≡◌, ◌≢◌, ◌<◌, ℕ, List, [], ◌++◌, length, Option, Result, Ok, Err}
use Rattle.p21_grammar.specs.Statements.{statements_of}
use Rattle.p21_grammar.specs.declared.event.Event.{Event}
use Rattle.p21_spec_basics.specs.Limits.{Limits}
use Rattle.p21_spec_survey.specs.Rules.{Rules}
use Rattle.p21_stream_log.specs.Log.{EndsWith, Held, IsRefused, Known, Logs, Point, behind_token}
use Rattle.p21_stream_statements.specs.StatementReader.{IsSeenAt}
use Rattle.p21_stream_statements.specs.declared.fault.Fault.{Fault}
use Rattle.p21_stream_statements.specs.declared.fault.Fault.TheVariants.{NoMemory}

-- the first of some bytes, and some where there are any
pub record IsWindowOf (rest window : List ℕ) : Type 0 where
  pub behind : List ℕ
  pub rest_is : rest ≡ window ++ behind
  pub some : 0 < length rest → 0 < length window

-- some bytes are taken of the piece that comes next, if it has any: so many, and with them a statement may have ended
pub record TakesSome (s : Rules) (limits : Limits) (known : Known) (point : Point) (piece more : List ℕ) (count : ℕ) (event : Option Event)
    (new : Held) : Type 0 where
  pub some : piece ≢ [] → 0 < count
  pub seen : Option ℕ
  pub seen_at : IsSeenAt seen piece count
  pub logs : Logs s limits known new (behind_token point seen piece count more event)
  pub ends : statements_of event ≢ [] → EndsWith 59 new.buffer

-- the piece is refused there, where a byte of it may have been looked at
pub record RefusesSome (s : Rules) (limits : Limits) (known : Known) (point : Point) (piece more : List ℕ) (fault : Fault)
    (new : Held) : Type 0 where
  pub there : Point
  pub read_is : there.read ≡ point.read
  pub between : there.ended ≡ []
  pub ahead_are : there.ahead ≡ piece ++ more
  pub refused : IsRefused s limits known there piece fault new

-- what is given at each point that was stood for, with no statement that has ended and the piece ahead
abbrev pub TokenGives : Held → List ℕ → Result (ℕ × Option Event) Fault → Held → Type 0
TokenGives old piece (Ok (count, event)) new =
    (s : Rules) (limits : Limits) (known : Known) (point : Point) (more : List ℕ) → Logs s limits known old point → point.ended ≡ []
    → point.ahead ≡ piece ++ more → IsSeenAt point.seen piece 0
    → TakesSome s limits known point piece more count event new
TokenGives old piece (Err fault) new =
    fault ≢ NoMemory → (s : Rules) (limits : Limits) (known : Known) (point : Point) (more : List ℕ) → Logs s limits known old point
    → point.ended ≡ [] → point.ahead ≡ piece ++ more → IsSeenAt point.seen piece 0
    → RefusesSome s limits known point piece more fault new
