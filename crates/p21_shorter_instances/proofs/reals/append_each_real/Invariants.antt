use Rattle.std.proofs.Common.{◌+◌, ◌≤◌, length}
use Rattle.p21_shorter_instances.proofs.RealElements.{AheadOfReal}
use Rattle.p21_shorter_instances.proofs.reals.append_each_real.Given as goal
use Rattle.p21_values.specs.Canonical.{Continues}

-- with each real a comma is taken
abbrev pub decreases-loop-size : goal.decreases-loop-size
decreases-loop-size l = length l.front

abbrev pub invariant-loop-size : goal.invariant-loop-size
invariant-loop-size l = AheadOfReal l.fn.bytes l.fn.draft l.count l.front l.draft × Continues l.fn.draft l.draft
    × (l.count + length l.front ≤ length l.fn.bytes)
