use Rattle.std.specs.Prelude.{◌≡◌, take}
use Rattle.p21_mapping_values.specs.View.{views}
use Rattle.p21_numbering.specs.Standing.{plain_names}
use Rattle.p21_numbering.proofs.loose.plain_names.Given as goal

abbrev pub invariant-loop-value : goal.invariant-loop-value
invariant-loop-value l = l.names.items ≡ plain_names (views (take l.value-index l.values))
