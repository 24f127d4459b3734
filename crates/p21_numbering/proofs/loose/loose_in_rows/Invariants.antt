use Rattle.std.specs.Prelude.{◌≡◌, None, take}
use Rattle.p21_mapping_values.specs.declared.value.Values.{Values}
use Rattle.p21_mapping_values.specs.View.{list_of, views}
use Rattle.p21_numbering.specs.Standing.{loose_in, standing_of}
use Rattle.p21_numbering.proofs.FirstFound.{first_in}
use Rattle.p21_numbering.proofs.loose.loose_in_rows.Given as goal

abbrev pub invariant-loop-row : goal.invariant-loop-row
invariant-loop-row l = first_in (λ (row : Values). loose_in (standing_of l.standings) (views (list_of row)))
    (take l.row-index l.rows) ≡ None
