use Rattle.std.proofs.Common.{◌≡◌, ◌++◌, true, take}
use Rattle.std.specs.List.{AllByRecursion as Each}
use Rattle.p21_canon.specs.StatementTexts.{row_of, rows_texts, still_first}
use Rattle.p21_express_graph.specs.Orders.{numbers}
use Rattle.p21_spec_file.specs.ValueText.{with_commas_between}
use Rattle.p21_mapping_values.specs.Spelled.{AreSpelled}
use Rattle.p21_mapping_values.specs.TypedView.{typed_view}
use Rattle.p21_canon.proofs.parts.append_rows.Given as goal

abbrev pub invariant-loop-entity : goal.invariant-loop-entity
invariant-loop-entity l = record {
  text : l.out.items ≡ l.fn.out.items ++ with_commas_between
      (rows_texts l.schema (typed_view l.typed) (numbers (take l.entity-index l.entities)));
  still : l.first ≡ still_first true (rows_texts l.schema (typed_view l.typed) (numbers (take l.entity-index l.entities)));
  spelled : Each (λ e. AreSpelled l.schema (row_of (typed_view l.typed) e)) (numbers (take l.entity-index l.entities));
}
