use Rattle.std.specs.Prelude.{◌≤◌, ◌-◌, ◌^◌}
use Rattle.p21_pairing.proofs.names.free_name.Given as goal

abbrev pub invariant-loop-name : goal.invariant-loop-name
invariant-loop-name l = l.from ≤ l.name

abbrev pub decreases-loop-name : goal.decreases-loop-name
decreases-loop-name l = 2 ^ 64 - l.name
