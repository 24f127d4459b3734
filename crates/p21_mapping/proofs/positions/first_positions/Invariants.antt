use Rattle.std.specs.BTreeMap.{get}
use Rattle.std.specs.Ordering.{nat_cmp}
use Rattle.p21_express_graph.specs.Orders.{numbers}
use Rattle.p21_mapping.proofs.Placing.{ArePlacedFrom}
use Rattle.p21_mapping.proofs.positions.first_positions.Given as goal

-- the entities from this one on have their places
abbrev pub invariant-loop-at : goal.invariant-loop-at
invariant-loop-at l = ArePlacedFrom (numbers l.entities) l.at (get nat_cmp l.places)
