use Rattle.std.proofs.Common.{take}
use Rattle.std.specs.Vec.Iter.{into_iter_items}
use Rattle.p21_express_graph.specs.Orders.{numbers}
use Rattle.p21_grammar_tree.specs.View.{part_views}
use Rattle.p21_mapping.specs.Outcome.{needs_view}
use Rattle.p21_mapping.specs.Rows.{TakesParts}
use Rattle.p21_mapping_values.specs.TypedView.{rows_view}
use Rattle.p21_mapping.proofs.fitted.complex_rows.Given as goal

abbrev pub invariant-loop-owner : goal.invariant-loop-owner
invariant-loop-owner l = TakesParts l.set.schema.now l.set.entities (numbers (take l.owner-index l.listed)) (part_views l.fn.parts.items)
    (part_views (into_iter_items l.left)) (rows_view l.rows.items) (needs_view l.fn.needs.items) (needs_view l.needs.items)
