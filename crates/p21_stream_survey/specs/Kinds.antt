-- Which refusals a file has (this project's own numbers).
use Rattle.std.specs.Prelude.{◌≡◌, ◌≢◌, ◌<◌, ◌⊎◌, ℕ, Bool, true, false, List, [], ◌∷◌, ◌++◌}
use Rattle.std.specs.List.{AllByRecursion as Each}
use Rattle.p21_spec_survey.specs.Survey as survey
use Rattle.p21_stream_statements.specs.Fault.{fault_number}
use Rattle.p21_stream_statements.specs.declared.fault.Fault.TheVariants.{Read}
use Rattle.p21_stream_survey.specs.declared.listed.Listed.{Listed}

-- it isn't that of a text that is no single parameter, and no want of memory, and no read or write failed
abbrev pub IsOfFile : ℕ → Type 0
IsOfFile number = (number ≢ 12) × (number < 90)

-- each refusal that is listed is one that a file has
abbrev pub AreOfFile : List Listed → Type 0
AreOfFile list = Each (λ (refusal : Listed). IsOfFile (fault_number refusal.fault)) list

-- the same of those of a reading
abbrev pub ListsOfFile : List survey.Listed → Type 0
ListsOfFile list = Each (λ (refusal : survey.Listed). IsOfFile refusal.number) list

-- each refusal is one that a file has; where a read failed the last one may be that of the read
abbrev pub AreOfReading : Bool → List Listed → Type 0
AreOfReading false list = AreOfFile list
AreOfReading true list = (before : List Listed) × (last : Listed) × (list ≡ before ++ last ∷ []) × AreOfFile before
    × (IsOfFile (fault_number last.fault) ⊎ (last.fault ≡ Read))
