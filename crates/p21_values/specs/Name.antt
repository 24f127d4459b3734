-- What the reader of instance names owes.
use Rattle.std.specs.Prelude.{ℕ, ◌^◌, ◌≤◌, List, Result, Ok, Err}
use Rattle.p21_spec_basics.specs.Digits.{number}
use Rattle.p21_spec_exchange.specs.Name.{NameForm, SpellsName}
use Rattle.p21_values.specs.declared.fault.ValueFault.{ValueFault}
use Rattle.p21_values.specs.declared.fault.ValueFault.TheVariants.{BadName, NameRange}

-- the number that is spelled, or whether the form or only the number is wrong
abbrev pub ReadsName : List ℕ → Result ℕ ValueFault → Type 0
ReadsName bytes (Ok value) = SpellsName bytes value
ReadsName bytes (Err BadName) = NameForm bytes → ⊥
ReadsName bytes (Err NameRange) = (form : NameForm bytes) × (2 ^ 64 ≤ number form.digits)
ReadsName bytes (Err fault) = ⊥
