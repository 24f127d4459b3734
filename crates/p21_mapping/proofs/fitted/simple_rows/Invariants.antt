use Rattle.std.proofs.Common.{reverse, take}
use Rattle.p21_express_graph.specs.Orders.{numbers}
use Rattle.p21_mapping.specs.Outcome.{needs_view}
use Rattle.p21_mapping.specs.Rows.{TakesRows, param_views}
use Rattle.p21_mapping_values.specs.TypedView.{rows_view}
use Rattle.p21_mapping.proofs.fitted.simple_rows.Given as goal

abbrev pub invariant-loop-owner : goal.invariant-loop-owner
invariant-loop-owner l = TakesRows l.set.schema.now l.set.entities (numbers (take l.owner-index l.listed)) (param_views l.fn.params.items)
    (param_views (reverse l.left.items)) (rows_view l.rows.items) (needs_view l.fn.needs.items) (needs_view l.needs.items)
