use Rattle.std.specs.Prelude.{◌≡◌, ◌++◌, map, take}
use Rattle.p21_numbering.specs.NewNames.{new_name}
use Rattle.p21_numbering.specs.NodesOf.{row_of_texts}
use Rattle.p21_numbering.proofs.RenamedTexts.{new_text}
use Rattle.p21_numbering.proofs.said.with_values.Given as goal

abbrev pub invariant-loop-value : goal.invariant-loop-value
invariant-loop-value l = l.more.items ≡ l.fn.row.items
    ++ row_of_texts (map (new_text l.schema (new_name l.names)) (take l.value-index l.values))
