-- An instance that is refused, with a signpost in a string of it, is passed over and listed (this project's own).
use Rattle.std.specs.BTreeSet.{Updates}
use Rattle.std.specs.Ordering.{nat_cmp}
use Rattle.std.specs.Prelude.{◌≡◌, ◌<◌, ◌↔◌, ◌⊎◌, ℕ, IsTrue, true, suc, List, [], ◌∷◌, ◌++◌, take, drop}
use Rattle.p21_spec_basics.specs.Limits.{Limits}
use Rattle.p21_spec_exchange.specs.Record.{Record}
use Rattle.p21_spec_exchange.specs.Statement.{instance}
use Rattle.p21_spec_survey.specs.Rules.{Rules}
use Rattle.p21_spec_survey.specs.Resuming.{HasNoneInside}
use Rattle.p21_spec_survey.specs.Survey.{IsInData, in_instance}
use Rattle.p21_stream_log.specs.Going.{behind_stretch}
use Rattle.p21_stream_log.specs.Laws.{BeginsInEach}
use Rattle.p21_stream_log.specs.Log.{Held, Known, Logs, Point}
use Rattle.p21_stream_log.specs.Opening.{OpensAs}
use Rattle.p21_stream_log.specs.Passage.{PassageFor}
use Rattle.p21_stream_log.specs.declared.opening.Opening.TheVariants.{Statement}
use Rattle.p21_stream_log.specs.declared.passage.Passage.{Passage}
use Rattle.p21_stream_log.specs.declared.passage.Passage.TheVariants.{GoesOn}
use Rattle.p21_stream_survey.specs.Judging.{RefusesBy}
use Rattle.p21_stream_survey.specs.Sifted.{Sifted}
use Rattle.p21_stream_statements.specs.Fault.{fault_number}
use Rattle.p21_stream_statements.specs.declared.fault.Fault.{Fault}
use Rattle.p21_stream_statements.specs.declared.refusal.At.TheVariants.{Instance}
use Rattle.p21_stream_survey.specs.Following.{HasEnded, Stands}
use Rattle.p21_stream_survey.specs.Reading.{HasRead}
use Rattle.p21_stream_survey.specs.declared.listing.Listing.{Listing}

-- at a point of a data section an instance has ended that begins behind so many bytes and is refused, with a signpost in a string of it
pub record IsWrongAt (s : Rules) (limits : Limits) (known : Known) (point : Point) (held : Held) (n : ℕ) (record_ : Record) (fault : Fault)
    (begins : ℕ) : Type 0 where
  pub logs : Logs s limits known held point
  pub ended : HasEnded held point (instance n record_)
  pub refused : RefusesBy s point.read.given n record_ fault
  pub inside : (behind : List ℕ) → ¬ HasNoneInside held.buffer behind
  pub in_data : IsInData point.read.given
  pub opens : OpensAs held.buffer Statement
  pub begins_in : BeginsInEach known point begins

-- its refusal is listed, and it is passed over by so many of as many bytes
pub record ListsWrong (before : Listing) (n : ℕ) (fault : Fault) (begins count size : ℕ) (passage : Passage) (behind : Listing) : Type
    0 where
  pub passage_is : passage ≡ GoesOn count
  pub list : behind.list.items ≡ before.list.items ++ record { fault = fault; at = Instance n; begins = begins } ∷ []
  pub passed : Updates nat_cmp before.passed behind.passed n true
  pub broken : IsTrue behind.is_broken ↔ (IsTrue before.is_broken ⊎ ((0 < count) × (0 < size)))
  pub statement : behind.statement ≡ suc before.statement

-- Of each such point: where the reading goes on the instance is passed over and listed; else nothing is listed, and it is known of it what
-- the log says
abbrev pub PassesWrong : Held → Listing → ℕ → Fault → ℕ → List ℕ → Passage → Held → Listing → Type 0
PassesWrong old before n fault begins bytes (GoesOn count) new behind =
    (s : Rules) (limits : Limits) (known : Known) (point : Point) (record_ : Record) (sieve : Sifted) → bytes ≡ old.buffer
    → IsWrongAt s limits known point old n record_ fault begins → HasRead s limits point.read sieve before
    → Stands s limits known new sieve behind (behind_stretch point (take count bytes) (fault_number fault) (in_instance n) begins
    (drop count bytes ++ point.ahead))
PassesWrong old before n fault begins bytes passage new behind =
    (behind ≡ before)
    × ((s : Rules) (limits : Limits) (known : Known) (point : Point) (record_ : Record) → bytes ≡ old.buffer
    → IsWrongAt s limits known point old n record_ fault begins
    → PassageFor s limits known point old.buffer [] point.ahead (fault_number fault) (in_instance n) begins passage new)
