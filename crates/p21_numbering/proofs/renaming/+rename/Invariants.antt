use Rattle.std.proofs.Common.{length}
use Rattle.p21_mapping_values.specs.View.{view}
use Rattle.p21_numbering.specs.NewNames.{new_name}
use Rattle.p21_numbering.proofs.Renamings.{Halfway}
use Rattle.p21_spec_numbering.specs.Renamed.{renamed_value}
use Rattle.p21_numbering.proofs.renaming.+rename.Given as goal

abbrev pub invariant-renamed_items-loop-value : goal.invariant-renamed_items-loop-value
invariant-renamed_items-loop-value l = Halfway (λ v. renamed_value (new_name l.names) (view v)) view l.left.items l.fn.values.items
    l.all.items

abbrev pub decreases-renamed_items-loop-value : goal.decreases-renamed_items-loop-value
decreases-renamed_items-loop-value l = length l.left.items
