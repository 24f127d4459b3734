use Rattle.std.proofs.Common.{◌≡◌, ◌++◌, take}
use Rattle.p21_canon.specs.StatementTexts.{AreSpelledParts, parts_text}
use Rattle.p21_express_graph.specs.Orders.{numbers}
use Rattle.p21_mapping_values.specs.TypedView.{rows_view}
use Rattle.p21_canon.proofs.parts.append_parts.Given as goal

abbrev pub invariant-loop-i : goal.invariant-loop-i
invariant-loop-i l = record {
  text : l.out.items ≡ l.fn.out.items ++ parts_text l.schema (numbers (take l.i l.entities)) (rows_view (take l.i l.rows));
  spelled : AreSpelledParts l.schema (numbers (take l.i l.entities)) (rows_view (take l.i l.rows));
}
