use Rattle.p21_mapping.specs.ArrangedRows.{ArrangedSoFar}
use Rattle.p21_mapping.proofs.arranged_rows.arranged_rows.Given as goal

abbrev pub invariant-loop-entity : goal.invariant-loop-entity
invariant-loop-entity l = ArrangedSoFar l.entities l.listed l.fn.rows.items l.entity-index l.left.items l.all.items
