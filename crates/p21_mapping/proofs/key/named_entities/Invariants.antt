use Rattle.std.proofs.Common.{take}
use Rattle.p21_express_graph.specs.Orders.{numbers}
use Rattle.p21_grammar_tree.specs.View.{part_views}
use Rattle.p21_mapping.specs.Shape.{AreNamed}
use Rattle.p21_mapping.proofs.key.named_entities.Given as goal

abbrev pub invariant-loop-part : goal.invariant-loop-part
invariant-loop-part l = AreNamed l.schema (part_views (take l.part-index l.parts)) (numbers l.listed.items)
