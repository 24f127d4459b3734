-- How far a survey is, whatever its file holds behind what is known of it (this project's own).
use Rattle.std.specs.Prelude.{◌≡◌, ◌⊎◌, ◌<◌, ◌≤◌, ◌+◌, ◌^◌, ℕ, zero, suc, List, [], ◌++◌, length}
use Rattle.p21_spec_basics.specs.Limits.{Limits}
use Rattle.p21_spec_survey.specs.Rules.{Rules}
use Rattle.p21_spec_survey.specs.Survey.{EndsReading, IsRead, Reading, at_statement}
use Rattle.p21_stream_log.specs.Log as log
use Rattle.p21_stream_log.specs.Log.{IsFileOf, Known, Point}
use Rattle.p21_stream_survey.specs.Sifted.{Sifted}
use Rattle.p21_stream_statements.specs.Fault.{fault_number}
use Rattle.p21_stream_statements.specs.StatementReader.{IsSeenAt}
use Rattle.p21_stream_statements.specs.declared.fault.Fault.{Fault}
use Rattle.p21_stream_survey.specs.Ending.{IsSurveyed}
use Rattle.p21_stream_survey.specs.Following.{Stands}
use Rattle.p21_stream_survey.specs.Keeping.{IsSoundKeeper, kept_by, rules_by}
use Rattle.p21_stream_survey.specs.Kinds.{AreOfFile, IsOfFile}
use Rattle.p21_stream_survey.specs.Reading.{HasRead}
use Rattle.p21_stream_survey.specs.Seeking.{IsSought}
use Rattle.p21_stream_survey.specs.declared.listed.Extent.{Extent}
use Rattle.p21_stream_survey.specs.declared.listed.Extent.TheVariants.{Most}
use Rattle.p21_stream_survey.specs.declared.listing.Listing.{Listing}
use Rattle.p21_stream_survey.specs.declared.seeking.Sought.{Sought}
use Rattle.p21_stream_survey.specs.declared.stage.Stage.{Stage}
use Rattle.p21_stream_survey.specs.declared.stage.Stage.TheVariants.{Ended, Reading as IsReading, Seeking, Waiting}
use Rattle.p21_stream_survey.specs.declared.survey.Survey.{Survey}

-- ---- the stages

-- statements are read at a point with no statement that isn't judged yet, where these bytes come next; the byte that was looked at is the
-- first of them
pub record Reads (s : Rules) (limits : Limits) (known : Known) (held : log.Held) (sieve : Sifted) (listing : Listing)
    (ahead : List ℕ) : Type 0 where
  pub point : Point
  pub stands : Stands s limits known held sieve listing point
  pub between : point.ended ≡ []
  pub ahead_are : point.ahead ≡ ahead
  pub seen_at : IsSeenAt point.seen ahead 0
  pub counted : held.start + (length held.buffer + length ahead) ≡ length known.bytes

-- the next statement is broken, and a seeker has taken some bytes behind it; these come next
pub record Seeks (s : Rules) (limits : Limits) (known : Known) (held : log.Held) (sieve : Sifted) (listing : Listing) (sought : Sought)
    (ahead : List ℕ) : Type 0 where
  pub point : Point
  pub statement : List ℕ
  pub behind : List ℕ
  pub is_sought : IsSought s limits known point held statement behind ahead sought.stretch.fault sought.stretch.begins sought.stretch.taken
      sought.seeker
  pub has : HasRead s limits point.read sieve listing
  pub counted : held.start + (sought.stretch.taken + length ahead) ≡ length known.bytes

-- in each file the next statement, which has these bytes first, ends the reading with a refusal that isn't listed yet; these come next
pub record Waits (s : Rules) (limits : Limits) (known : Known) (held : log.Held) (listing : Listing) (fault : Fault)
    (bytes ahead : List ℕ) : Type 0 where
  pub read : Reading
  pub is_read : (file : List ℕ) → IsFileOf known file → IsRead s limits file read
  pub sieve : Sifted
  pub has : HasRead s limits read sieve listing
  pub start_is : held.start ≡ length read.bytes
  pub file_is : (file : List ℕ) → IsFileOf known file → (rest : List ℕ) × (file ≡ read.bytes ++ (bytes ++ (ahead ++ rest)))
  pub ends : (file : List ℕ) → IsFileOf known file → EndsReading s limits file read (fault_number fault) (at_statement (suc read.count))
  pub of_file : IsOfFile (fault_number fault)
  pub counted : held.start + (length bytes + length ahead) ≡ length known.bytes

-- the list says of each file what a survey of it says, and of no reference
abbrev pub SurveysEach : Rules → Limits → Known → Listing → Extent → Type 0
SurveysEach s limits known listing extent = (file : List ℕ) → IsFileOf known file → IsSurveyed s limits file listing extent

-- and each refusal that is listed is one that a file has
pub record ListsEach (s : Rules) (limits : Limits) (known : Known) (listing : Listing) (extent : Extent) : Type 0 where
  pub surveys : SurveysEach s limits known listing extent
  pub of_file : AreOfFile listing.list.items

abbrev pub IsAt : Rules → Limits → Known → log.Held → Sifted → Listing → Stage → List ℕ → Type 0
IsAt s limits known held sieve listing IsReading ahead = Reads s limits known held sieve listing ahead
IsAt s limits known held sieve listing (Seeking sought) ahead = Seeks s limits known held sieve listing sought ahead
IsAt s limits known held sieve listing (Waiting unlisted) ahead =
    Waits s limits known held listing unlisted.fault unlisted.bytes.items ahead
IsAt s limits known held sieve listing (Ended extent) ahead = ListsEach s limits known listing extent

-- so many are listed, where so many are asked for: fewer, and where a stretch is passed over two fewer; or the list has ended with some
abbrev pub ListsWithin : ℕ → ℕ → Stage → Type 0
ListsWithin most listed IsReading = listed < most
ListsWithin most listed (Seeking sought) = suc listed < most
ListsWithin most listed (Waiting unlisted) = listed < most
ListsWithin most listed (Ended extent) = (0 < listed) × (listed ≤ most) × (extent ≡ Most → listed ≡ most)

-- ---- a survey

-- how many are listed
abbrev pub listed_of : Survey → ℕ
listed_of survey = length survey.listing.list.items

-- what is known of the rules is so; and 64 bits count the bytes that a file may have, and those that are known
pub record IsSound (known : Known) (survey : Survey) : Type 0 where
  pub few : length known.bytes < 2 ^ 64
  pub limited : survey.limits.file_source < 2 ^ 64
  pub keeper : IsSoundKeeper survey.keeper

-- a survey is in this stage, whatever it says itself, where these bytes come next
pub record IsInStage (known : Known) (survey : Survey) (stage : Stage) (ahead : List ℕ) : Type 0 where
  pub sound : IsSound known survey
  pub within : ListsWithin survey.most (listed_of survey) stage
  pub is_at : IsAt (rules_by survey) survey.limits known survey.log (kept_by survey) survey.listing stage ahead

-- a survey is so far in each file of which so much is known, and these bytes come next
abbrev pub Course : Known → Survey → List ℕ → Type 0
Course known survey ahead = IsInStage known survey survey.stage ahead

-- as many as are asked for, and one where none is
abbrev pub asked_for : ℕ → ℕ
asked_for zero = 1
asked_for (suc fewer) = suc fewer

-- ---- what a call does

-- the survey is asked the same
pub record AsksTheSame (old new : Survey) : Type 0 where
  pub rules : rules_by new ≡ rules_by old
  pub limits : new.limits ≡ old.limits
  pub most : new.most ≡ old.most

-- it is so far, asked the same, and lists as many or more
pub record GoesTo (known : Known) (old new : Survey) (ahead : List ℕ) : Type 0 where
  pub course : Course known new ahead
  pub same : AsksTheSame old new
  pub no_fewer : listed_of old ≤ listed_of new

-- the list has ended
abbrev pub HasListEnded : Stage → Type 0
HasListEnded IsReading = ⊥
HasListEnded (Seeking sought) = ⊥
HasListEnded (Waiting unlisted) = ⊥
HasListEnded (Ended extent) = Unit {0}

-- and it lists one more, as where the list has ended, or fewer bytes come next
pub record GoesFurther (known : Known) (old new : Survey) (before ahead : List ℕ) : Type 0 where
  pub goes : GoesTo known old new ahead
  pub further : (listed_of old < listed_of new) ⊎ (length ahead < length before)

-- behind a piece, whatever comes next
abbrev pub Feeds : Survey → List ℕ → Survey → Type 0
Feeds old piece new = (known : Known) (more : List ℕ) → Course known old (piece ++ more) → GoesTo known old new more

-- a survey in this stage has these bytes come next
abbrev pub IsUnderWay : Survey → Stage → List ℕ → Type 0
IsUnderWay survey stage rest = (known : Known) × (more : List ℕ) × IsInStage known survey stage (rest ++ more)
