use Rattle.std.proofs.Common.{◌≡◌, ◌≤◌, ℕ, List, length}
use Rattle.p21_c.specs.Filled.{IsToldNumber}
use Rattle.p21_c.proofs.Filling.{AreTold}
use Rattle.p21_model.specs.EntitiesLeft.{TellsEntities}
use Rattle.p21_c.proofs.model_instances.tell_entities.Given as goal

-- so many are told, and the others are left
abbrev pub invariant-loop-at : goal.invariant-loop-at
invariant-loop-at l = (length l.room ≡ length l.fn.room) × (l.at ≤ length l.room)
    × ((set : List ℕ) → TellsEntities l.fn.entities set → AreTold IsToldNumber (TellsEntities l.left) set l.room l.at)
