-- Where the reading goes on behind a broken statement, looked for piece by piece (this project's own).
use Rattle.std.specs.Prelude.{◌≡◌, ◌+◌, ℕ, suc, List, ◌++◌, length, take, drop, Option, Some, None}
use Rattle.p21_spec_basics.specs.Limits.{Limits}
use Rattle.p21_spec_survey.specs.Rules.{Rules}
use Rattle.p21_spec_survey.specs.Survey.{at_statement}
use Rattle.p21_stream_log.specs.Going.{behind_stretch}
use Rattle.p21_stream_log.specs.Log.{Held, Known, Point}
use Rattle.p21_stream_log.specs.Passage.{IsBrokenBy, IsSoughtBy, PassageFor}
use Rattle.p21_stream_log.specs.declared.passage.Passage.{Passage}
use Rattle.p21_stream_log.specs.declared.passage.Passage.TheVariants.{GoesOn}
use Rattle.p21_stream_resume.specs.Seeking as seeking
use Rattle.p21_stream_survey.specs.Sifted.{Sifted}
use Rattle.p21_stream_statements.specs.Fault.{fault_number}
use Rattle.p21_stream_statements.specs.declared.fault.Fault.{Fault}
use Rattle.p21_stream_survey.specs.Following.{Stands}
use Rattle.p21_stream_survey.specs.Kinds.{IsOfFile}
use Rattle.p21_stream_survey.specs.Reading.{HasRead}
use Rattle.p21_stream_survey.specs.declared.listing.Listing.{Listing}

-- at a point the statement is broken, and a seeker has taken these bytes behind it: with the statement they are so many
pub record IsSought (s : Rules) (limits : Limits) (known : Known) (point : Point) (held : Held) (statement behind more : List ℕ)
    (fault : Fault) (begins taken : ℕ) (seeker : seeking.Held) : Type 0 where
  pub broken : IsBrokenBy s limits known point held statement behind more (fault_number fault) (at_statement (suc point.read.count)) begins
  pub by : IsSoughtBy point statement behind seeker
  pub taken_is : taken ≡ length (statement ++ behind)
  pub of_file : IsOfFile (fault_number fault)

-- Of each such point, with a piece ahead: the seeker has taken it too; or the statement is passed over and listed, and the signpost is
-- ahead with the rest of the piece; or nothing is listed, and it is known of it what the log says
abbrev pub SeeksFurther : Held → Listing → seeking.Held → Fault → ℕ → ℕ → List ℕ → Option (ℕ × Passage) → Held → Listing → seeking.Held
    → Type 0
SeeksFurther old before seeker fault begins taken piece None new behind after =
    (behind ≡ before)
    × ((s : Rules) (limits : Limits) (known : Known) (point : Point) (statement front more : List ℕ)
    → IsSought s limits known point old statement front (piece ++ more) fault begins taken seeker
    → IsSought s limits known point new statement (front ++ piece) more fault begins (taken + length piece) after)
SeeksFurther old before seeker fault begins taken piece (Some (count, GoesOn passed)) new behind after =
    (s : Rules) (limits : Limits) (known : Known) (point : Point) (statement front more : List ℕ) (sieve : Sifted)
    → IsSought s limits known point old statement front (piece ++ more) fault begins taken seeker
    → HasRead s limits point.read sieve before
    → Stands s limits known new sieve behind (behind_stretch point (take passed (statement ++ (front ++ piece))) (fault_number fault)
    (at_statement (suc point.read.count)) begins (after.begun ++ (drop count piece ++ more)))
    × (drop passed (statement ++ (front ++ piece)) ≡ after.begun ++ drop count piece)
SeeksFurther old before seeker fault begins taken piece (Some (count, passage)) new behind after =
    (behind ≡ before)
    × ((s : Rules) (limits : Limits) (known : Known) (point : Point) (statement front more : List ℕ)
    → IsSought s limits known point old statement front (piece ++ more) fault begins taken seeker
    → PassageFor s limits known point statement (front ++ piece) more (fault_number fault) (at_statement (suc point.read.count)) begins
    passage new)
