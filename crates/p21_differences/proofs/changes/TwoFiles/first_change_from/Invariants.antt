use Rattle.std.proofs.Common.{◌-◌, ◌^◌, ◌≤◌}
use Rattle.p21_differences.proofs.Naming.{AreSameUpTo}
use Rattle.p21_differences.proofs.changes.TwoFiles.first_change_from.Given as goal

-- the names that were passed mean the same
abbrev pub invariant-loop-name : goal.invariant-loop-name
invariant-loop-name l = (l.fn.least ≤ l.from) × AreSameUpTo l.self.schema.now l.self.first.now.kept l.self.second.now.kept l.fn.least l.from

abbrev pub decreases-loop-name : goal.decreases-loop-name
decreases-loop-name l = 2 ^ 64 - l.from
