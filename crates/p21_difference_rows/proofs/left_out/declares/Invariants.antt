use Rattle.std.proofs.Common.{◌≤◌, ℕ}
use Rattle.p21_difference_rows.proofs.Knowing.{IsNamed}
use Rattle.p21_difference_rows.proofs.left_out.declares.Given as goal

-- no attribute so far has the name
abbrev pub invariant-loop-index : goal.invariant-loop-index
invariant-loop-index l = (i : ℕ) → IsNamed l.schema l.name l.entity.0 i → l.index ≤ i
