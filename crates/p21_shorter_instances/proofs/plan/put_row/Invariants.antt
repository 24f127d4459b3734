use Rattle.std.proofs.Common.{◌+◌, ◌-◌, length}
use Rattle.p21_spec_schema.specs.Schema.{Schema}
use Rattle.p21_shorter_instances.specs.Steps.{IsPlanOf, rows_view}
use Rattle.p21_shorter_instances.proofs.plan.put_row.Given as goal

-- the rows that are added say nothing
abbrev pub invariant-loop-rows : goal.invariant-loop-rows
invariant-loop-rows l = (s : Schema) → IsPlanOf s (rows_view l.fn.rows.items) → IsPlanOf s (rows_view l.rows.items)

abbrev pub decreases-loop-rows : goal.decreases-loop-rows
decreases-loop-rows l = l.at + 1 - length l.rows.items
