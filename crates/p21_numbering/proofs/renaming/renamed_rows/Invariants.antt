use Rattle.std.proofs.Common.{length}
use Rattle.p21_mapping_values.specs.declared.value.Values.{Values}
use Rattle.p21_mapping_values.specs.View.{list_of, views}
use Rattle.p21_numbering.specs.NewNames.{new_name}
use Rattle.p21_numbering.proofs.Renamings.{Halfway}
use Rattle.p21_spec_numbering.specs.Renamed.{renamed_values}
use Rattle.p21_numbering.proofs.renaming.renamed_rows.Given as goal

abbrev pub invariant-loop-row : goal.invariant-loop-row
invariant-loop-row l = Halfway (λ (r : Values). renamed_values (new_name l.names) (views (list_of r))) (λ (r : Values). views (list_of r))
    l.left.items l.fn.rows.items l.all.items

abbrev pub decreases-loop-row : goal.decreases-loop-row
decreases-loop-row l = length l.left.items
