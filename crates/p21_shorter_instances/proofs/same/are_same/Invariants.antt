use Rattle.std.proofs.Common.{◌≡◌, ◌-◌, take}
use Rattle.p21_shorter_instances.proofs.same.are_same.Given as goal

-- those before are the same
abbrev pub invariant-loop-count : goal.invariant-loop-count
invariant-loop-count l = take l.count l.bytes ≡ take l.count l.others

abbrev pub decreases-loop-count : goal.decreases-loop-count
decreases-loop-count l = l.last - l.count
