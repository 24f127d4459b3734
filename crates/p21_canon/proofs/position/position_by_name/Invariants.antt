use Rattle.std.proofs.Common.{◌≤◌, ◌-◌, length}
use Rattle.p21_canon.proofs.position.position_by_name.Given as goal

abbrev pub invariant-loop-low : goal.invariant-loop-low
invariant-loop-low l = (l.low ≤ l.high) × (l.high ≤ length l.entities)

abbrev pub decreases-loop-low : goal.decreases-loop-low
decreases-loop-low l = l.high - l.low
