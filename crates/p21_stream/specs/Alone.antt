-- What a survey finds of the bytes of a file by itself (this project's own).
use Rattle.std.specs.Prelude.{◌≡◌, ℕ, List, Option, Some, None, slice_get}
use Rattle.p21_spec_basics.specs.Limits.{Limits}
use Rattle.p21_spec_survey.specs.Rules.{by_itself}
use Rattle.p21_stream.specs.Survey as survey
use Rattle.p21_stream.specs.Survey.{RefusesInput}
use Rattle.p21_stream.specs.SurveyFeeding.{IsListOf}
use Rattle.p21_stream.specs.declared.alone.SurveyedAlone.{SurveyedAlone}
use Rattle.p21_stream.specs.declared.alone.SurveyedAlone.TheVariants.{Refused, WellFormed}
use Rattle.p21_stream.specs.declared.listing.Surveyed.TheVariants as surveyed
use Rattle.p21_stream_statements.specs.declared.refusal.Refusal.{Refusal}
use Rattle.p21_stream_survey.specs.declared.listed.Found.{Found}
use Rattle.p21_stream_syntax.specs.Reading.{IsWellFormedInput}

-- what it says of the bytes of a reader: they are well formed; or they aren't, and this is the list
abbrev pub SurveysAlone : Limits → Option (List ℕ) → Option (List ℕ) → SurveyedAlone → Type 0
SurveysAlone limits old new (WellFormed found) = IsWellFormedInput limits old new found
SurveysAlone limits old new (Refused refusals) = RefusesInput by_itself limits old new refusals

-- the last refusal is that of a read that failed
abbrev pub EndsByRead : SurveyedAlone → Type 0
EndsByRead (WellFormed found) = ⊥
EndsByRead (Refused refusals) = survey.EndsByRead (surveyed.Refused refusals)

-- no more refusals are listed than so many, and so many where the survey ended since no more were asked for
abbrev pub ListsAtMost : ℕ → SurveyedAlone → Type 0
ListsAtMost most (WellFormed found) = Unit {0}
ListsAtMost most (Refused refusals) = survey.ListsAtMost most (surveyed.Refused refusals)

-- the refusal of this number in the list, counted from 0; none of a file that is well formed
abbrev pub refusal_at : SurveyedAlone → ℕ → Option Refusal
refusal_at (WellFormed found) number = None
refusal_at (Refused refusals) number = slice_get refusals.list.items number

-- what it says of itself, or the list
abbrev pub HandsOn : Found → SurveyedAlone → Type 0
HandsOn found (WellFormed well_formed) = found.well_formed ≡ Some well_formed
HandsOn found (Refused refusals) = (found.well_formed ≡ None) × IsListOf found refusals
