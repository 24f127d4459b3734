use Rattle.p21_difference_rows.specs.Steps.{Puts, TellsNone}
use Rattle.p21_difference_rows.proofs.outlines.list_moved.Given as goal

abbrev pub invariant-loop : goal.invariant-loop
invariant-loop l = Puts l.style TellsNone l.fn.rows.text.items l.rows.text.items
