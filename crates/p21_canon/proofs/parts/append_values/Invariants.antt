use Rattle.std.proofs.Common.{◌≡◌, ◌++◌, take}
use Rattle.p21_canon.specs.StatementTexts.{still_first, texts_behind}
use Rattle.p21_mapping_values.proofs.Elements.{texts}
use Rattle.p21_mapping_values.specs.Spelled.{AreSpelled}
use Rattle.p21_mapping_values.specs.View.{views}
use Rattle.p21_canon.proofs.parts.append_values.Given as goal

abbrev pub invariant-loop-value : goal.invariant-loop-value
invariant-loop-value l = record {
  text : l.out.items ≡ l.fn.out.items ++ texts_behind l.fn.first (texts l.schema (take l.value-index l.values));
  still : l.first ≡ still_first l.fn.first (texts l.schema (take l.value-index l.values));
  spelled : AreSpelled l.schema (views (take l.value-index l.values));
}
