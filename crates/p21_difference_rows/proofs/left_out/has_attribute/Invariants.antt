use Rattle.std.proofs.Common.{drop}
use Rattle.p21_difference_rows.proofs.Knowing.{AreDeclaredBy}
use Rattle.p21_difference_rows.proofs.left_out.has_attribute.Given as goal

-- no entity so far declares the attribute
abbrev pub invariant-loop-owner : goal.invariant-loop-owner
invariant-loop-owner l = AreDeclaredBy l.schema l.name l.fn.entity.0 (drop l.owner-index l.owner-items)
