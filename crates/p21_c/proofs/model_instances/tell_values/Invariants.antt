use Rattle.std.proofs.Common.{◌≡◌, ◌≤◌, List, length}
use Rattle.p21_c.specs.Filled.{IsToldRow}
use Rattle.p21_c.proofs.Filling.{AreTold}
use Rattle.p21_model.specs.Left.{TellsRows}
use Rattle.p21_model.specs.Rows.{Row}
use Rattle.p21_c.proofs.model_instances.tell_values.Given as goal

-- so many are told, and the others are left
abbrev pub invariant-loop-at : goal.invariant-loop-at
invariant-loop-at l = (length l.room ≡ length l.fn.room) × (l.at ≤ length l.room)
    × ((rows : List Row) → TellsRows l.fn.attributes rows → AreTold IsToldRow (TellsRows l.left) rows l.room l.at)
