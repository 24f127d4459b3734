use Rattle.std.proofs.Common.{◌≡◌, map, take}
use Rattle.p21_express_graph.specs.Orders.{numbers}
use Rattle.p21_express_graph.specs.SettledOrder.{lists_of}
use Rattle.p21_express_graph.proofs.orders.supertype_numbers.Given as goal

abbrev pub invariant-loop-entity : goal.invariant-loop-entity
invariant-loop-entity l = lists_of l.lists.items ≡ map (λ x. numbers x.supertypes.items) (take l.entity-index l.entities)
