use Rattle.std.proofs.Common.{◌≤◌, ◌-◌, length}
use Rattle.p21_model_uses.specs.Tables.{AreGroupsOf}
use Rattle.p21_model_uses.proofs.groups.groups_of.Given as goal

-- the rows before here have their groups
abbrev pub invariant-loop-at : goal.invariant-loop-at
invariant-loop-at l = AreGroupsOf l.rows l.at l.used.items × (l.at ≤ length l.rows)

abbrev pub decreases-loop-at : goal.decreases-loop-at
decreases-loop-at l = length l.rows - l.at
