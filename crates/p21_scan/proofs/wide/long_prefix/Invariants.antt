use Rattle.std.proofs.Common.{◌-◌, length}
use Rattle.p21_scan.specs.Class.{AreOfClass}
use Rattle.p21_scan.proofs.wide.long_prefix.Given as goal

abbrev pub invariant-loop-count : goal.invariant-loop-count
invariant-loop-count l = AreOfClass l.class l.bytes l.count

abbrev pub decreases-loop-count : goal.decreases-loop-count
decreases-loop-count l = length l.bytes - l.count
