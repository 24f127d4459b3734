use Rattle.std.specs.Prelude.{◌≡◌, ◌++◌, take}
use Rattle.p21_numbering.specs.NodesOf.{row_of_texts}
use Rattle.p21_numbering.specs.Rows.{lent_rows}
use Rattle.p21_numbering.proofs.text_rows.with_texts.Given as goal

abbrev pub invariant-loop-one : goal.invariant-loop-one
invariant-loop-one l = l.more.items ≡ l.fn.row.items ++ row_of_texts (lent_rows (take l.one-index l.texts))
