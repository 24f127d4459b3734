-- A survey at the end of what is known of its file (this project's own).
use Rattle.std.specs.Prelude.{◌≡◌, ◌<◌, ◌∷◌, ◌++◌, ℕ, true, List, [], Option, Some, None}
use Rattle.p21_stream_log.specs.Log.{Known}
use Rattle.p21_stream_statements.specs.declared.fault.Fault.TheVariants.{Read}
use Rattle.p21_stream_survey.specs.Course.{AsksTheSame, IsInStage, ListsWithin, SurveysEach, listed_of}
use Rattle.p21_stream_survey.specs.Ending.{ListsRead}
use Rattle.p21_stream_survey.specs.Finishing.{IsFoundIn}
use Rattle.p21_stream_survey.specs.Keeping.{rules_by}
use Rattle.p21_stream_survey.specs.declared.at_end.AtEnd.{AtEnd}
use Rattle.p21_stream_survey.specs.declared.at_end.AtEnd.TheVariants.{Again, FileEnd, Listed}
use Rattle.p21_stream_survey.specs.declared.listed.Extent.{Extent}
use Rattle.p21_stream_survey.specs.declared.listed.Extent.TheVariants.{ReadTo}
use Rattle.p21_stream_survey.specs.declared.listed.Found.{Found}
use Rattle.p21_stream_survey.specs.declared.listed.Listed as code
use Rattle.p21_stream_survey.specs.declared.listing.Listing.{Listing}
use Rattle.p21_stream_survey.specs.declared.stage.Stage.{Stage}
use Rattle.p21_stream_survey.specs.declared.stage.Stage.TheVariants.{Ended, Reading, Seeking, Waiting}
use Rattle.p21_stream_survey.specs.declared.survey.Survey.{Survey}

-- a survey in this stage has read all of its file, which is known
pub record IsReadOut (known : Known) (survey : Survey) (stage : Stage) : Type 0 where
  pub all : known.is_all ≡ true
  pub in_stage : IsInStage known survey stage []

-- some file is read so
abbrev pub SomeIsReadOut : Survey → Stage → Type 0
SomeIsReadOut survey stage = (known : Known) × IsReadOut known survey stage

-- the survey is so far in this stage, and asked the same
pub record GoesInto (known : Known) (old new : Survey) (stage : Stage) (ahead : List ℕ) : Type 0 where
  pub in_stage : IsInStage known new stage ahead
  pub same : AsksTheSame old new

-- ---- what the calls give

-- of each file that is read out in this stage: the list ends so
abbrev pub EndsBy : Survey → Stage → Extent → Survey → Type 0
EndsBy old stage extent new = (known : Known) → IsReadOut known old stage → GoesInto known old new (Ended extent) []

-- in each of the files the list has ended so, and the survey is asked the same
pub record EndsIn (known : Known) (old new : Survey) (extent : Extent) : Type 0 where
  pub same : AsksTheSame old new
  pub within : ListsWithin new.most (listed_of new) (Ended extent)
  pub surveys : SurveysEach (rules_by new) new.limits known new.listing extent

-- of each file that is read out in this stage, where a read failed: the list ends so
abbrev pub Interrupts : Survey → Stage → Extent → Survey → Type 0
Interrupts old stage extent new = (known : Known) → IsReadOut known old stage → EndsIn known old new extent

-- what stands in the list then, where a read failed in this stage
abbrev pub ListsInterrupted : Survey → Stage → Extent → Listing → Type 0
ListsInterrupted survey Reading extent behind = ListsRead survey.listing.list.items extent behind.list.items
ListsInterrupted survey (Seeking sought) extent behind =
    (stretch : code.Listed) × (stretch.fault ≡ sought.stretch.fault)
    × ListsRead (survey.listing.list.items ++ stretch ∷ []) extent behind.list.items
ListsInterrupted survey (Waiting unlisted) extent behind = ListsRead survey.listing.list.items extent behind.list.items
ListsInterrupted survey (Ended ended) extent behind = behind ≡ survey.listing

-- these bytes are to be read again
abbrev pub IsAgain : List ℕ → AtEnd → Type 0
IsAgain bytes (Again again) = again.items ≡ bytes
IsAgain bytes other = ⊥

-- in the stage in which it reads, with one refusal more
pub record ReadsAgain (known : Known) (old new : Survey) (ahead : List ℕ) : Type 0 where
  pub goes : GoesInto known old new Reading ahead
  pub further : listed_of old < listed_of new

-- of each file that is read out in this stage: the list has ended; or these bytes of it are to be read again; or none
abbrev pub EndsStage : Survey → Stage → AtEnd → Survey → Type 0
EndsStage old stage (Listed extent) new = EndsBy old stage extent new
EndsStage old stage (Again bytes) new = (known : Known) → IsReadOut known old stage → ReadsAgain known old new bytes.items
EndsStage old stage FileEnd new = (known : Known) → IsReadOut known old stage → GoesInto known old new Reading []

-- the stage behind the last statement: the list has ended so, or nothing is to be passed over
abbrev pub last_stage : Option Extent → Stage
last_stage None = Reading
last_stage (Some extent) = Ended extent

-- of each file that is read out
abbrev pub EndsReadOut : Survey → Option Extent → Survey → Type 0
EndsReadOut old extent new = (known : Known) → IsReadOut known old old.stage → GoesInto known old new (last_stage extent) []

-- what is found of each file that is read out in this stage
abbrev pub FindsIn : Survey → Stage → Found → Type 0
FindsIn survey stage found = (known : Known) → IsReadOut known survey stage → IsFoundIn (rules_by survey) survey.limits known found

abbrev pub FindsAll : Survey → Found → Type 0
FindsAll survey found = FindsIn survey survey.stage found

-- the list is this and the refusal of a read that failed behind it, which ended the reading
pub record AddsRead (before : List code.Listed) (found : Found) : Type 0 where
  pub refusal : code.Listed
  pub list_is : found.list.items ≡ before ++ refusal ∷ []
  pub fault_is : refusal.fault ≡ Read
  pub extent_is : found.extent ≡ ReadTo refusal.begins
  pub no_references : found.references.items ≡ []

-- what stands in the list where a read failed in this stage
abbrev pub IsInterrupted : Survey → Stage → Found → Type 0
IsInterrupted survey Reading found = AddsRead survey.listing.list.items found
IsInterrupted survey (Seeking sought) found = (stretch : code.Listed) × AddsRead (survey.listing.list.items ++ stretch ∷ []) found
IsInterrupted survey (Waiting unlisted) found = AddsRead survey.listing.list.items found
IsInterrupted survey (Ended extent) found = Unit {0}
