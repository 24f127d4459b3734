use Rattle.std.proofs.Common.{map, reverse}
use Rattle.p21_mapping.specs.Outcome.{needs_view}
use Rattle.p21_mapping.specs.Rows.{RowSoFar, param_views}
use Rattle.p21_mapping_values.specs.View.{view}
use Rattle.p21_mapping.proofs.fitted.fit_row.Given as goal

abbrev pub invariant-loop-index : goal.invariant-loop-index
invariant-loop-index l = RowSoFar l.set.schema.now l.set.entities l.owner.0 l.index (param_views (reverse l.fn.params.items))
    (param_views (reverse l.params.items)) (map view l.values.items) (needs_view l.fn.needs.items) (needs_view l.needs.items)
