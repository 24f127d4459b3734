-- A survey that is fed what a reader gives.
use Rattle.std.specs.Prelude.{Option, Some, None, ◌≡◌, ◌⊎◌, ◌≤◌, ◌<◌, ◌+◌, ◌^◌, ℕ, Bool, true, false, List, ◌++◌, length, map}
use Rattle.std.specs.Io.KnownBytes.{Consumes, IsAtEnd, Keeps}
use Rattle.std.specs.List.{AllByRecursion as Each}
use Rattle.p21_spec_basics.specs.Digits.{IsByte}
use Rattle.p21_spec_basics.specs.Limits.{Limits}
use Rattle.p21_stream_io.specs.Watch.{one_call_more}
use Rattle.p21_stream_log.specs.Log.{Known}
use Rattle.p21_stream_survey.specs.Course.{Course, Feeds, HasListEnded}
use Rattle.p21_stream_survey.specs.declared.listed.Found.{Found}
use Rattle.p21_stream_survey.specs.declared.listed.Listed.{Listed}
use Rattle.p21_stream_survey.specs.declared.survey.Survey.{Survey}
use Rattle.p21_stream.specs.Survey.{refusal_of}
use Rattle.p21_stream.specs.declared.listing.Refusals.{Refusals}
use Rattle.p21_stream.specs.declared.listing.Surveyed.{Surveyed}
use Rattle.p21_stream.specs.declared.listing.Surveyed.TheVariants as survey

-- ---- a piece

-- the survey is so far in each file that begins with these bytes, whatever comes behind them
abbrev pub StandsBehind : Survey → List ℕ → Type 0
StandsBehind survey bytes =
    (known : Known) (more : List ℕ) → length known.bytes < 2 ^ 64 → known.bytes ≡ bytes ++ more → Course known survey more

-- it is so behind some bytes, and the piece makes them so many
pub record TakesPiece (survey : Survey) (piece : List ℕ) (size : ℕ) : Type 0 where
  pub bytes : List ℕ
  pub stands : StandsBehind survey bytes
  pub size_is : length (bytes ++ piece) ≡ size

-- it has read the piece, whatever it has read before
pub record HasTakenPiece (before : Survey) (piece : List ℕ) (after : Survey) : Type 0 where
  pub are_bytes : Each IsByte piece
  pub feeds : Feeds before piece after

-- the reader gave so many bytes, and the survey is so far behind them
pub record IsSurveyedFrom (start now : Option (List ℕ)) (survey : Survey) (size : ℕ) : Type 0 where
  pub bytes : List ℕ
  pub consumed : Consumes start now bytes
  pub are_bytes : Each IsByte bytes
  pub size_is : length bytes ≡ size
  pub stands : StandsBehind survey bytes

-- behind so many bytes the reader gave more of them up to so many, none at its end alone; or a read failed
abbrev pub SurveysMore : Option (List ℕ) → Option (List ℕ) → Survey → Survey → ℕ → Option ℕ → Type 0
SurveysMore old new before after taken (Some next) =
    ((start : Option (List ℕ)) → IsSurveyedFrom start old before taken → IsSurveyedFrom start new after next)
    × (next ≡ taken → IsAtEnd new)
SurveysMore old new before after taken None = Keeps old new × (after ≡ before)

-- ---- all of it

-- why no more is read: a read failed, and the list hasn't ended; or it has, or the reader has no more, or more was read than a file may
-- have
abbrev pub IsOver : Limits → Option (List ℕ) → Survey → List ℕ → Bool → Type 0
IsOver limits now survey bytes true = ¬ HasListEnded survey.stage
IsOver limits now survey bytes false = HasListEnded survey.stage ⊎ IsAtEnd now ⊎ (limits.file_source < length bytes)

-- the reader gave these bytes, and the survey reads no more
pub record IsSurveyedTo (limits : Limits) (start now : Option (List ℕ)) (survey : Survey) (has_failed : Bool) : Type 0 where
  pub bytes : List ℕ
  pub consumed : Consumes start now bytes
  pub are_bytes : Each IsByte bytes
  pub few : length bytes < 2 ^ 64
  pub stands : StandsBehind survey bytes
  pub over : IsOver limits now survey bytes has_failed

-- the failures of a reader: one more where a read failed
abbrev pub failures_behind : ℕ → Bool → ℕ
failures_behind count true = one_call_more count
failures_behind count false = count

abbrev pub failures_by : ℕ → Option ℕ → ℕ
failures_by count (Some next) = count
failures_by count None = one_call_more count

-- the calls of a reader that moved bytes are no more by as many as bytes came; a read that failed moved none
abbrev pub IsMovedTo : ℕ → ℕ → ℕ → Option ℕ → Type 0
IsMovedTo old new taken (Some next) = (taken ≤ next) × (new + taken ≤ old + next)
IsMovedTo old new taken None = new ≡ old

-- ---- what is found

-- the list is that of what was found
pub record IsListOf (found : Found) (refusals : Refusals) : Type 0 where
  pub list_is : refusals.list.items ≡ map refusal_of found.list.items ++ found.references.items
  pub begins_are : refusals.begins.items ≡ map (λ (refusal : Listed). refusal.begins) found.list.items
  pub extent_is : refusals.extent ≡ found.extent

-- the file as it was accepted, or the list
abbrev pub HandsOn : Found → Surveyed → Type 0
HandsOn found (survey.Accepted accepted) = found.accepted ≡ Some accepted
HandsOn found (survey.Refused refusals) = (found.accepted ≡ None) × IsListOf found refusals
