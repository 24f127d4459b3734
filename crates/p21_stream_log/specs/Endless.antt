-- Statements in which a file ends, where no remark in them ends (this project's own, on the tokens of ISO 10303-21).
use Rattle.std.specs.Prelude.{◌≡◌, ◌≢◌, ◌<◌, ◌^◌, ℕ, suc, List, [], ◌++◌, length, codes}
use Rattle.p21_spec_basics.specs.Limits.{Limits}
use Rattle.p21_spec_survey.specs.Rules.{Rules}
use Rattle.p21_spec_survey.specs.Resuming.{EndsInRemark}
use Rattle.p21_spec_survey.specs.Survey.{BeginsAt, BeginsWithEnd, IsInData, Reading, at_statement}
use Rattle.p21_stream_log.specs.Ending.{EndsBehind}
use Rattle.p21_stream_log.specs.Laws.{BeginsInEach}
use Rattle.p21_stream_log.specs.Log.{Held, Known, Logs, Point}
use Rattle.p21_stream_log.specs.Opening.{IsFrontOfAll}
use Rattle.p21_stream_log.specs.Passage.{IsBrokenBy}
use Rattle.p21_stream_resume.specs.Standing.{EndsNoRemark}
use Rattle.p21_shorter_tokens.specs.Gaps.{PassesSeparators}

-- behind separators some bytes stand, and these aren't the first bytes of ENDSEC, nor do they begin with it
pub record BeginsUnended (bytes : List ℕ) : Type 0 where
  pub rest : List ℕ
  pub passes : PassesSeparators bytes rest
  pub some : rest ≢ []
  pub not_end : ¬ IsFrontOfAll (codes "ENDSEC") rest
  pub not_front : ¬ IsFrontOfAll rest (codes "ENDSEC")

-- of such bytes behind those that are read of a file, in which no remark ends from there on: the statement begins behind so many bytes of it
abbrev pub BeginsUnendedIn : Held → List ℕ → ℕ → Type 0
BeginsUnendedIn held bytes begins =
    (file rest : List ℕ) (read : Reading) → held.start ≡ length read.bytes → length (read.bytes ++ bytes) < 2 ^ 64
    → file ≡ read.bytes ++ (bytes ++ rest)
    → EndsNoRemark (bytes ++ rest) → BeginsUnended bytes → BeginsAt file read begins

-- and it doesn't begin with ENDSEC
abbrev pub UnendedIsNoEnd : Type 0
UnendedIsNoEnd = (bytes rest : List ℕ) → EndsNoRemark (bytes ++ rest) → BeginsUnended bytes → ¬ BeginsWithEnd (bytes ++ rest)

-- where no remark ends, bytes that end in one do so with any behind them
abbrev pub UnendedGoesOn : Type 0
UnendedGoesOn = (bytes inside more : List ℕ) → EndsNoRemark (bytes ++ more) → EndsInRemark bytes inside
    → EndsInRemark (bytes ++ more) (inside ++ more)

-- in a data section the files end with this statement in a remark, and it doesn't begin with ENDSEC: so it is broken by all its bytes
abbrev pub UnendedIsBroken : Type 0
UnendedIsBroken = (s : Rules) (limits : Limits) (known : Known) (point : Point) (held : Held) (statement inside : List ℕ) (begins : ℕ)
    → Logs s limits known held point
    → point.ended ≡ [] → EndsBehind known point statement → EndsInRemark statement inside → IsInData point.read.given
    → ¬ BeginsWithEnd statement → BeginsInEach known point begins
    → IsBrokenBy s limits known point held statement [] [] 3 (at_statement (suc point.read.count)) begins
