-- What a survey finds of the bytes of a file (this project's own).
use Rattle.std.specs.Prelude.{◌≡◌, ◌≢◌, ◌≤◌, ◌<◌, ◌⊎◌, ◌^◌, ℕ, List, [], ◌∷◌, ◌++◌, length, map, Option}
use Rattle.std.specs.Io.KnownBytes.{Consumes, IsAtEnd}
use Rattle.std.specs.List.{AllByRecursion as Each}
use Rattle.p21_spec_basics.specs.Digits.{IsByte}
use Rattle.p21_spec_basics.specs.Limits.{Limits}
use Rattle.p21_spec_schema.specs.Schema.{Schema}
use Rattle.p21_spec_survey.specs.Rules.{IsRightFile, Rules, by_itself, of_schema}
use Rattle.p21_spec_survey.specs.Survey.{IsSurvey}
use Rattle.p21_stream.specs.ReaderInput.{IsAcceptedInput, RefusesRead}
use Rattle.p21_stream.specs.declared.listing.Refusals.{Refusals}
use Rattle.p21_stream.specs.declared.listing.Surveyed.{Surveyed}
use Rattle.p21_stream.specs.declared.listing.Surveyed.TheVariants as survey
use Rattle.p21_stream_statements.specs.declared.fault.Fault.{Fault}
use Rattle.p21_stream_statements.specs.declared.fault.Fault.TheVariants.{Read}
use Rattle.p21_stream_statements.specs.declared.refusal.Refusal.{Refusal}
pub use Rattle.p21_stream_survey.specs.Course.{asked_for}
use Rattle.p21_stream_survey.specs.Ending.{extent_of}
use Rattle.p21_stream_survey.specs.Found.{told_as}
use Rattle.p21_stream_survey.specs.Reading.{listed_as}
use Rattle.p21_stream_survey.specs.declared.listed.Extent.TheVariants.{Most, ReadTo}
use Rattle.p21_stream_survey.specs.declared.listed.Listed.{Listed}
use Rattle.p21_stream_syntax.specs.Reading.{RefusesSyntax}

-- the last refusal is that of a read that failed
abbrev pub EndsByRead : Surveyed → Type 0
EndsByRead (survey.Accepted accepted) = ⊥
EndsByRead (survey.Refused refusals) = (before : List Refusal) × (refusal : Refusal) × (refusals.list.items ≡ before ++ refusal ∷ [])
    × ((begins : ℕ) × (refusals.extent ≡ ReadTo begins)) × (refusal.fault ≡ Read)

-- the bytes that were read are all that the list is of: the reader has no more, a read failed, or they are more than a file may have
abbrev pub IsReadOut : Limits → Option (List ℕ) → Refusals → List ℕ → Type 0
IsReadOut limits new refusals bytes = IsAtEnd new ⊎ EndsByRead (survey.Refused refusals) ⊎ (limits.file_source < length bytes)

-- the list is of this file: it begins with the bytes that were read, whatever comes behind them, where the list ended in front of the rest;
-- and it is these bytes alone where they were read out
pub record IsOfReader (limits : Limits) (new : Option (List ℕ)) (refusals : Refusals) (bytes file : List ℕ) : Type 0 where
  pub are_bytes : Each IsByte file
  pub few : length file < 2 ^ 64
  pub rest : List ℕ
  pub file_is : file ≡ bytes ++ rest
  pub all : IsReadOut limits new refusals bytes → rest ≡ []

-- a refusal of a statement, without where the statement begins
abbrev pub refusal_of : Listed → Refusal
refusal_of listed = record { fault = listed.fault; at = listed.at }

-- The refusals of statements, each with where its statement begins, and those of references behind them. They are a survey of each file
-- that the list is of: it says which statements are refused and why, and how far the file was read (`IsSurvey` of `p21_spec_survey`). A
-- read that failed is the last of them, or none is one
pub record ListsRefusals (s : Rules) (limits : Limits) (old new : Option (List ℕ)) (refusals : Refusals) : Type 0 where
  pub bytes : List ℕ
  pub consumed : Consumes old new bytes
  pub are_bytes : Each IsByte bytes
  pub few : length bytes < 2 ^ 64
  pub listed : List Listed
  pub references : List Refusal
  pub list_is : refusals.list.items ≡ map refusal_of listed ++ references
  pub begins_are : refusals.begins.items ≡ map (λ (refusal : Listed). refusal.begins) listed
  pub surveys : (file : List ℕ) → IsOfReader limits new refusals bytes file
      → IsSurvey s limits file (map listed_as listed) (map told_as references) (extent_of refusals.extent)
  pub read_is_last : EndsByRead (survey.Refused refusals) ⊎ Each (λ (refusal : Refusal). refusal.fault ≢ Read) refusals.list.items

-- no right file begins with these bytes
abbrev pub IsDeadBy : Rules → Limits → List ℕ → Type 0
IsDeadBy s limits bytes = (more : List ℕ) → Each IsByte more → ¬ IsRightFile s limits (bytes ++ more)

-- no right file begins with the bytes that the reader gave; or they are all, and none
pub record IsRefusedBy (s : Rules) (limits : Limits) (old new : Option (List ℕ)) : Type 0 where
  pub bytes : List ℕ
  pub consumed : Consumes old new bytes
  pub refused : IsDeadBy s limits bytes ⊎ (IsAtEnd new × ¬ IsRightFile s limits bytes)

-- what a fault says of the bytes read
abbrev pub RefusesBy : Rules → Limits → Option (List ℕ) → Option (List ℕ) → Fault → Type 0
RefusesBy (of_schema s) limits old new fault = RefusesRead s limits old new fault
RefusesBy by_itself limits old new fault = RefusesSyntax limits old new fault

-- there is a first refusal, and it says of the file what the refusal of a file that is read says
abbrev pub IsRefusedFirst : Rules → Limits → Option (List ℕ) → Option (List ℕ) → List Refusal → Type 0
IsRefusedFirst s limits old new list =
    (first : Refusal) × (others : List Refusal) × (list ≡ first ∷ others) × RefusesBy s limits old new first.fault

-- this list is of the bytes of a reader
abbrev pub RefusesInput : Rules → Limits → Option (List ℕ) → Option (List ℕ) → Refusals → Type 0
RefusesInput s limits old new refusals = IsRefusedFirst s limits old new refusals.list.items × ListsRefusals s limits old new refusals

-- what a survey says of the bytes of a reader: they are accepted; or they are refused, and this is the list
abbrev pub SurveysInput : Schema → Limits → Option (List ℕ) → Option (List ℕ) → Surveyed → Type 0
SurveysInput s limits old new (survey.Accepted accepted) = IsAcceptedInput s limits old new accepted
SurveysInput s limits old new (survey.Refused refusals) = RefusesInput (of_schema s) limits old new refusals

-- no more refusals are listed than so many, and so many where the survey ended since no more were asked for
abbrev pub ListsAtMost : ℕ → Surveyed → Type 0
ListsAtMost most (survey.Accepted accepted) = Unit {0}
ListsAtMost most (survey.Refused refusals) =
    (length refusals.list.items ≤ most) × (refusals.extent ≡ Most → length refusals.list.items ≡ most)
