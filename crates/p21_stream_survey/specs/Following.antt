-- What is done with a statement that has ended and is judged (this project's own).
use Rattle.std.specs.Prelude.{◌≡◌, ℕ, Bool, true, false, List, [], ◌∷◌}
use Rattle.p21_spec_basics.specs.Limits.{Limits}
use Rattle.p21_spec_exchange.specs.Record.{Record}
use Rattle.p21_spec_exchange.specs.Statement.{Statement, instance}
use Rattle.p21_spec_survey.specs.Rules.{Rules}
use Rattle.p21_spec_survey.specs.Resuming.{HasNoneInside}
use Rattle.p21_stream_log.specs.Log as log
use Rattle.p21_stream_log.specs.Log.{EndsWith, Known, Logs, Point, behind_left_out, behind_taken}
use Rattle.p21_stream_survey.specs.Sifted.{Sifted}
use Rattle.p21_stream_statements.specs.Fault.{fault_number}
use Rattle.p21_stream_statements.specs.declared.fault.Fault.{Fault}
use Rattle.p21_stream_survey.specs.Judging.{RefusesBy, Takes}
use Rattle.p21_stream_survey.specs.Reading.{HasRead}
use Rattle.p21_stream_survey.specs.declared.listing.Listing.{Listing}

-- the log stands for a point, and what is kept and listed is that of its reading
pub record Stands (s : Rules) (limits : Limits) (known : Known) (held : log.Held) (sieve : Sifted) (listing : Listing)
    (point : Point) : Type 0 where
  pub logs : Logs s limits known held point
  pub has : HasRead s limits point.read sieve listing

-- a statement has ended there with the last byte of the buffer
pub record HasEnded (held : log.Held) (point : Point) (statement : Statement) : Type 0 where
  pub ended : point.ended ≡ statement ∷ []
  pub ends : EndsWith 59 held.buffer

-- of each point where a statement has ended that is right, and kept by now: it is taken
abbrev pub TakesRight : log.Held → Listing → log.Held → Listing → Type 0
TakesRight old before new behind =
    (s : Rules) (limits : Limits) (known : Known) (point : Point) (statement : Statement) (sieve kept : Sifted)
    → Stands s limits known old sieve before point → HasEnded old point statement
    → Takes s limits point.read.given point.read.taken sieve statement kept
    → Stands s limits known new kept behind (behind_taken point old.buffer statement)

-- of each point where an instance of this name has ended that is refused by this fault: it is left out, and listed; or a signpost stands in
-- a string of it, and nothing has changed
abbrev pub LeavesOut : log.Held → Sifted → Listing → ℕ → Fault → Bool → log.Held → Sifted → Listing → Type 0
LeavesOut old sieve before n fault true new after behind =
    (s : Rules) (limits : Limits) (known : Known) (point : Point) (record_ : Record) → Stands s limits known old sieve before point
    → HasEnded old point (instance n record_) → RefusesBy s point.read.given n record_ fault
    → (begins : ℕ) × Stands s limits known new after behind (behind_left_out point old.buffer n record_ (fault_number fault) begins)
LeavesOut old sieve before n fault false new after behind =
    (new ≡ old) × (after ≡ sieve) × (behind ≡ before)
    × ((s : Rules) (limits : Limits) (known : Known) (point : Point) (statement : Statement) (bytes : List ℕ)
    → Stands s limits known old sieve before point → HasEnded old point statement → ¬ HasNoneInside old.buffer bytes)
