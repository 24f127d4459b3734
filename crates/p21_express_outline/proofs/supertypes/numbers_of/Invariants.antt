use Rattle.std.proofs.Common.{◌≡◌, take}
use Rattle.p21_express_graph.specs.Orders.{numbers}
use Rattle.p21_express_outline.proofs.supertypes.numbers_of.Given as goal

abbrev pub invariant-loop-entity : goal.invariant-loop-entity
invariant-loop-entity l = l.found.items ≡ numbers (take l.entity-index l.entities)
