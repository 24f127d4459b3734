-- What a survey finds of a file (this project's own).
use Rattle.std.specs.Prelude.{◌≡◌, ◌≢◌, ◌≤◌, ◌+◌, ℕ, List, [], map, length, Option, Some, None}
use Rattle.p21_spec_basics.specs.Limits.{Limits}
use Rattle.p21_spec_schema.specs.Schema.{Schema}
use Rattle.p21_spec_survey.specs.Rules.{IsRightFile, Rules, by_itself, of_schema}
use Rattle.p21_spec_survey.specs.Survey.{IsSurvey}
use Rattle.p21_stream_output.specs.Output.{Output}
use Rattle.p21_stream_statements.specs.Fault.{fault_number}
use Rattle.p21_stream_statements.specs.declared.refusal.At.{At}
use Rattle.p21_stream_statements.specs.declared.refusal.At.TheVariants.{Instance, Statement}
use Rattle.p21_stream_statements.specs.declared.refusal.Refusal.{Refusal}
use Rattle.p21_stream_survey.specs.Canonical.{IsCanonicalOutput}
use Rattle.p21_stream_survey.specs.Ending.{extent_of}
use Rattle.p21_stream_survey.specs.Reading.{listed_as}
use Rattle.p21_stream_survey.specs.declared.listed.Extent.TheVariants.{Most}
use Rattle.p21_stream_survey.specs.declared.listed.Found.{Found}
use Rattle.p21_stream_syntax.specs.Walk.{IsFoundOf}
use Rattle.p21_stream_syntax.specs.declared.well_formed.WellFormed.{WellFormed}

-- the number in what a refusal names: of a reference it names the instance that has it
abbrev pub number_in : At → ℕ
number_in (Statement number) = number
number_in (Instance n) = n

-- a refusal of a reference, as the definitions have it
abbrev pub told_as : Refusal → ℕ × ℕ
told_as refusal = (fault_number refusal.fault, number_in refusal.at)

-- nothing is refused
abbrev pub ListsNothing : Found → Type 0
ListsNothing found = (found.list.items ≡ []) × (found.references.items ≡ [])

-- the file is accepted as this, and nothing is refused; or something is
abbrev pub AcceptsFile : Schema → Limits → List ℕ → Found → Option Output → Type 0
AcceptsFile s limits file found None = ¬ ListsNothing found
AcceptsFile s limits file found (Some output) = ListsNothing found × IsCanonicalOutput s limits file output

-- it is well formed, and says this of itself
abbrev pub AcceptsAlone : Limits → List ℕ → Found → Option WellFormed → Type 0
AcceptsAlone limits file found None = ¬ ListsNothing found
AcceptsAlone limits file found (Some well_formed) = ListsNothing found × IsFoundOf limits file well_formed

abbrev pub Accepts : Rules → Limits → List ℕ → Found → Type 0
Accepts (of_schema s) limits file found = AcceptsFile s limits file found found.accepted
Accepts by_itself limits file found = AcceptsAlone limits file found found.well_formed

-- This is a survey of the file, and where nothing is refused the file is accepted, or by itself is well formed. Where references alone are
-- refused it isn't, for it is read to its end
pub record IsFound (s : Rules) (limits : Limits) (file : List ℕ) (found : Found) : Type 0 where
  pub survey : IsSurvey s limits file (map listed_as found.list.items) (map told_as found.references.items) (extent_of found.extent)
  pub accepted : Accepts s limits file found
  pub unserved : found.references.items ≢ [] → found.list.items ≡ [] → ¬ IsRightFile s limits file

-- no more are listed than so many, and so many where no more were looked for
abbrev pub FindsAtMost : ℕ → Found → Type 0
FindsAtMost most found =
    (length found.list.items + length found.references.items ≤ most)
    × (found.extent ≡ Most → length found.list.items + length found.references.items ≡ most)
