use Rattle.std.proofs.Common.{List, ◌≡◌, ◌≤◌}
use Rattle.p21_differences.proofs.Handing.{IsLeft}
use Rattle.p21_differences.specs.OtherValues.{TellsBoth, values_schema, values_size}
use Rattle.p21_model.specs.Rows.{Row}
use Rattle.p21_differences.proofs.values.OtherValues.next.Given as goal

-- the rows that are left, behind those of equal texts
abbrev pub invariant-loop-before : goal.invariant-loop-before
invariant-loop-before l = ((rows others : List Row) → TellsBoth l.fn.self rows others → IsLeft l.self.first l.self.second rows others)
    × (values_size l.self ≤ values_size l.fn.self) × (values_schema l.self ≡ values_schema l.fn.self)

abbrev pub decreases-loop-before : goal.decreases-loop-before
decreases-loop-before l = values_size l.self
