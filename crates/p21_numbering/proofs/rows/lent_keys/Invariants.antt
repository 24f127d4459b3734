use Rattle.std.specs.Prelude.{◌≡◌, filter, take}
use Rattle.p21_numbering.specs.Keyed.{is_keyed}
use Rattle.p21_numbering.specs.Rows.{held_rows, lent_rows}
use Rattle.p21_numbering.proofs.rows.lent_keys.Given as goal

-- the rows so far that have numbers
abbrev pub invariant-loop-row : goal.invariant-loop-row
invariant-loop-row l = lent_rows l.lent.items ≡ filter is_keyed (held_rows (take l.row-index l.rows))
