use Rattle.std.specs.Prelude.{◌≡◌, take}
use Rattle.p21_numbering.specs.Rows.{held_rows, lent_rows}
use Rattle.p21_pairing.proofs.kinds.lent.Given as goal

abbrev pub invariant-loop-row : goal.invariant-loop-row
invariant-loop-row l = lent_rows l.lent.items ≡ held_rows (take l.row-index l.rows)
