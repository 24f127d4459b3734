-- The refusals of the readers of values: their numbers and names, and what a reader's answer owes.
use Rattle.std.specs.Prelude.{◌≡◌, List, ℕ, Result, Ok, Err, codes}
use Rattle.p21_values.specs.declared.fault.ValueFault.{ValueFault}
use Rattle.p21_values.specs.declared.fault.ValueFault.TheVariants.{BadNumber, NumberRange, BadBinary, NameRange, BadName, BadWord, NoMemory}

-- A fault other than want of memory is `wrong`, and comes only where nothing is spelled
abbrev pub RefusesAs : {V : Type 0} → ValueFault → (V → Type 0) → ValueFault → Type 0
RefusesAs wrong Spells NoMemory = Unit {0}
RefusesAs {V} wrong Spells fault = (fault ≡ wrong) × ((value : V) → Spells value → ⊥)

-- a value that is spelled, or a refusal as above
abbrev pub Reads : {V : Type 0} → ValueFault → (V → Type 0) → Result V ValueFault → Type 0
Reads wrong Spells (Ok value) = Spells value
Reads wrong Spells (Err fault) = RefusesAs wrong Spells fault

abbrev pub fault_number : ValueFault → ℕ
fault_number BadNumber = 7
fault_number NumberRange = 8
fault_number BadBinary = 9
fault_number NameRange = 10
fault_number BadName = 11
fault_number BadWord = 13
fault_number NoMemory = 90

abbrev pub fault_name : ValueFault → List ℕ
fault_name BadNumber = codes "BadNumber"
fault_name NumberRange = codes "NumberRange"
fault_name BadBinary = codes "BadBinary"
fault_name NameRange = codes "NameRange"
fault_name BadName = codes "BadName"
fault_name BadWord = codes "BadWord"
fault_name NoMemory = codes "NoMemory"
