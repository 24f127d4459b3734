-- What an instance leaves that is given up.
use Rattle.std.specs.Prelude.{◌≡◌, ℕ, List, IfErr, OnErr, Result}
use Rattle.p21_mapping_values.specs.declared.need.Need.{Need}
use Rattle.p21_shorter_instances.specs.TakenValues.{KeepsNeeds, PassesDelimiter}
use Rattle.p21_shorter_instances.specs.declared.given_up.GivenUp.{GivenUp}
use Rattle.p21_shorter_instances.specs.declared.given_up.GivenUp.TheVariants.{NoMemory}
use Rattle.p21_values.specs.Canonical.{Continues}

-- where the call gives up, the text goes on from that before
abbrev pub LeavesText : {Found : Type 0} → Result Found GivenUp → List ℕ → List ℕ → Type 0
LeavesText result old new = OnErr result (Continues old new)

-- where the call gives up, the references go on from those before
abbrev pub LeavesNeeds : {Found : Type 0} → Result Found GivenUp → List Need → List Need → Type 0
LeavesNeeds result old new = OnErr result (KeepsNeeds old new)

-- the mark of a name stands first, behind separators
abbrev pub BeginsWithMark : List ℕ → Type 0
BeginsWithMark bytes = (rest : List ℕ) × PassesDelimiter 35 bytes rest

-- memory is refused behind such a mark alone
abbrev pub RefusesAtMark : {Found : Type 0} → Result Found GivenUp → List ℕ → Type 0
RefusesAtMark result bytes = IfErr result (λ why. why ≡ NoMemory → BeginsWithMark bytes)
