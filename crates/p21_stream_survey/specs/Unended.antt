-- Statements with which a file ends in a remark that nothing ends (this project's own).
use Rattle.std.specs.Prelude.{◌≡◌, ◌⊎◌, ◌<◌, ℕ, true, suc, List, [], ◌++◌, take, drop}
use Rattle.p21_spec_basics.specs.Limits.{Limits}
use Rattle.p21_spec_survey.specs.Rules.{Rules}
use Rattle.p21_spec_survey.specs.Survey.{IsGoneOnBehind, at_statement}
use Rattle.p21_stream_log.specs.Ending.{EndsBehind}
use Rattle.p21_stream_log.specs.Going.{behind_stretch}
use Rattle.p21_stream_log.specs.Log.{Held, Known, Point}
use Rattle.p21_stream_log.specs.Passage.{IsBrokenBy, PassageFor}
use Rattle.p21_stream_log.specs.declared.passage.Passage.{Passage}
use Rattle.p21_stream_log.specs.declared.passage.Passage.TheVariants.{GoesOn}
use Rattle.p21_stream_survey.specs.Sifted.{Sifted}
use Rattle.p21_stream_statements.specs.Fault.{fault_number}
use Rattle.p21_stream_statements.specs.declared.fault.Fault.{Fault}
use Rattle.p21_stream_survey.specs.Course.{Course, GoesFurther, GoesTo, listed_of}
use Rattle.p21_stream_survey.specs.Finishing.{IsPassedBehind, IsSurveyedIn}
use Rattle.p21_stream_survey.specs.Following.{Stands}
use Rattle.p21_stream_survey.specs.Reading.{HasRead}
use Rattle.p21_stream_survey.specs.declared.finishing.Ended.{Ended}
use Rattle.p21_stream_survey.specs.declared.finishing.Ended.TheVariants.{AtFileEnd, Listed, PassedOver}
use Rattle.p21_stream_survey.specs.declared.listing.Listing.{Listing}
use Rattle.p21_stream_survey.specs.declared.survey.Survey.{Survey}

-- ---- a statement

-- At a point each of the files ends with these bytes of the next statement, whether they are taken or not; and no statement has ended that
-- isn't judged
pub record IsAtLast (s : Rules) (limits : Limits) (known : Known) (held : Held) (sieve : Sifted) (listing : Listing) (point : Point)
    (statement : List ℕ) : Type 0 where
  pub stands : Stands s limits known held sieve listing point
  pub between : point.ended ≡ []
  pub to_end : EndsBehind known point statement

-- and it is broken by all of them, with a refusal that a survey goes on behind
pub record IsUnendedAt (s : Rules) (limits : Limits) (known : Known) (point : Point) (held : Held) (statement : List ℕ) (fault : Fault)
    (begins : ℕ) : Type 0 where
  pub to_end : EndsBehind known point statement
  pub gone_on : IsGoneOnBehind (fault_number fault)
  pub broken : IsBrokenBy s limits known point held statement [] [] (fault_number fault) (at_statement (suc point.read.count)) begins

-- Of each such point: where the reading goes on the statement is passed over and listed; else nothing is listed, and it is known of it what
-- the log says
abbrev pub PassesUnended : Held → Listing → Fault → ℕ → List ℕ → Passage → Held → Listing → Type 0
PassesUnended old before fault begins statement (GoesOn count) new behind =
    (s : Rules) (limits : Limits) (known : Known) (point : Point) (sieve : Sifted)
    → IsUnendedAt s limits known point old statement fault begins → HasRead s limits point.read sieve before
    → Stands s limits known new sieve behind (behind_stretch point (take count statement) (fault_number fault)
    (at_statement (suc point.read.count)) begins (drop count statement))
PassesUnended old before fault begins statement passage new behind =
    (new ≡ old) × (behind ≡ before)
    × ((s : Rules) (limits : Limits) (known : Known) (point : Point) → IsUnendedAt s limits known point old statement fault begins
    → PassageFor s limits known point statement [] [] (fault_number fault) (at_statement (suc point.read.count)) begins passage new)

-- Of each such point, where the first ones of these bytes are taken: the list has ended; or the statement is passed over; or nothing has
-- changed
abbrev pub EndsUnended : Limits → Held → Listing → List ℕ → List ℕ → Ended → Held → Listing → Type 0
EndsUnended limits old before front statement (Listed extent) new behind =
    (s : Rules) (known : Known) (point : Point) (sieve : Sifted) → front ≡ old.buffer
    → IsAtLast s limits known old sieve before point statement → IsSurveyedIn s limits known behind extent
EndsUnended limits old before front statement (PassedOver count) new behind =
    (s : Rules) (known : Known) (point : Point) (sieve : Sifted) → front ≡ old.buffer
    → IsAtLast s limits known old sieve before point statement → IsPassedBehind s limits known old.start new sieve behind count statement
EndsUnended limits old before front statement AtFileEnd new behind = (new ≡ old) × (behind ≡ before)

-- ---- the bytes in which a file ends

-- these are all that come next of some file
abbrev pub IsLast : Survey → List ℕ → Type 0
IsLast survey bytes = (known : Known) × (known.is_all ≡ true) × Course known survey bytes

-- of each file of which they are: all of them are read
abbrev pub FeedsLast : Survey → List ℕ → Survey → Type 0
FeedsLast old bytes new = (known : Known) → known.is_all ≡ true → Course known old bytes → GoesTo known old new []

-- or some of them, or one more is listed; these are left
abbrev pub GoesLast : Survey → List ℕ → List ℕ → Survey → Type 0
GoesLast old bytes left new = (known : Known) → known.is_all ≡ true → Course known old bytes → GoesFurther known old new bytes left

-- and then one more is listed, or the same are left
abbrev pub PassesOpen : Survey → List ℕ → List ℕ → Survey → Type 0
PassesOpen old bytes left new = (known : Known) → known.is_all ≡ true → Course known old bytes
    → GoesTo known old new left × ((listed_of old < listed_of new) ⊎ (left ≡ bytes))

-- the bytes end with those of a statement, of which these stand behind so many others
pub record IsStatementIn (bytes : List ℕ) (at : ℕ) (front statement : List ℕ) : Type 0 where
  pub before : List ℕ
  pub bytes_are : bytes ≡ before ++ statement
  pub statement_is : statement ≡ front ++ drop at bytes
