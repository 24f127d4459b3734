use Rattle.std.specs.Prelude.{◌≡◌, take}
use Rattle.p21_mapping_values.specs.TypedView.{ids_view, rows_view}
use Rattle.p21_spec_numbering.specs.Numbered.{unnamed_text}
use Rattle.p21_numbering.proofs.labels.unnamed_text.Given as goal

abbrev pub invariant-loop-i : goal.invariant-loop-i
invariant-loop-i l = l.text.items ≡ unnamed_text l.schema (take l.i (ids_view l.entities)) (take l.i (rows_view l.rows))
