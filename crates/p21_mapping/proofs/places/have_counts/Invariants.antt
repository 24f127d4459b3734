use Rattle.std.proofs.Common.{take}
use Rattle.std.specs.List.{AllZip}
use Rattle.p21_express_graph.specs.Orders.{numbers}
use Rattle.p21_grammar_tree.specs.View.{part_views}
use Rattle.p21_mapping.specs.Shape.{HasCount}
use Rattle.p21_mapping.proofs.places.have_counts.Given as goal

abbrev pub invariant-loop-at : goal.invariant-loop-at
invariant-loop-at l = AllZip (HasCount l.schema) (part_views (take l.at l.parts)) (numbers (take l.at l.listed))
