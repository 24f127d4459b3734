-- A broken statement is passed over and listed (this project's own).
use Rattle.std.specs.Prelude.{◌≡◌, ◌<◌, ◌↔◌, ◌⊎◌, ℕ, IsTrue, suc, List, [], ◌∷◌, ◌++◌, take, drop}
use Rattle.p21_spec_basics.specs.Limits.{Limits}
use Rattle.p21_spec_survey.specs.Rules.{Rules}
use Rattle.p21_spec_survey.specs.Survey.{at_statement}
use Rattle.p21_stream_log.specs.Going.{behind_stretch}
use Rattle.p21_stream_log.specs.Log.{Held, Known, Point}
use Rattle.p21_stream_log.specs.declared.passage.Passage.{Passage}
use Rattle.p21_stream_log.specs.declared.passage.Passage.TheVariants.{GoesOn}
use Rattle.p21_stream_survey.specs.Sifted.{Sifted}
use Rattle.p21_stream_statements.specs.Fault.{fault_number}
use Rattle.p21_stream_statements.specs.declared.fault.Fault.{Fault}
use Rattle.p21_stream_survey.specs.Breaking.{IsRefusedAt, PassesBroken}
use Rattle.p21_stream_survey.specs.Following.{Stands}
use Rattle.p21_stream_survey.specs.Reading.{HasRead, listed_as}
use Rattle.p21_stream_survey.specs.declared.listed.Listed.{Listed}
use Rattle.p21_stream_survey.specs.declared.listing.Listing.{Listing}

-- the refusal of the next statement is listed, which is passed over by so many of as many bytes
pub record ListsPassed (before : Listing) (fault : Fault) (begins count size : ℕ) (passage : Passage) (behind : Listing) : Type 0 where
  pub passage_is : passage ≡ GoesOn count
  pub one : Listed
  pub is : listed_as one ≡ record { number = fault_number fault; subject = at_statement before.statement; begins = begins }
  pub list : behind.list.items ≡ before.list.items ++ one ∷ []
  pub passed : behind.passed ≡ before.passed
  pub broken : IsTrue behind.is_broken ↔ (IsTrue before.is_broken ⊎ ((0 < count) × (0 < size)))
  pub statement : behind.statement ≡ suc before.statement

-- Of each point where some of a piece was refused: where the reading goes on the statement is passed over and listed; else nothing is
-- listed, and it is known of it what the log says
abbrev pub GoesOnBroken : Held → Listing → Fault → ℕ → List ℕ → Passage → Held → Listing → Type 0
GoesOnBroken old before fault begins bytes (GoesOn count) new behind =
    (s : Rules) (limits : Limits) (known : Known) (point : Point) (piece more : List ℕ) (sieve : Sifted) → bytes ≡ old.buffer ++ piece
    → IsRefusedAt s limits known point old piece more fault begins → HasRead s limits point.read sieve before
    → Stands s limits known new sieve behind (behind_stretch point (take count bytes) (fault_number fault)
    (at_statement (suc point.read.count)) begins (drop count bytes ++ more))
GoesOnBroken old before fault begins bytes passage new behind = (behind ≡ before) × PassesBroken old fault bytes passage new
