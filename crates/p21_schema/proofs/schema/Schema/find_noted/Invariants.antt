use Rattle.std.proofs.Common.{take}
use Rattle.std.specs.BTreeMap.{get}
use Rattle.std.specs.Ordering.{nat_cmp}
use Rattle.p21_express_graph.specs.Orders.{numbers}
use Rattle.p21_schema.specs.NotedEntities.{AreNoted}
use Rattle.p21_schema.proofs.schema.Schema.find_noted.Given as goal

-- the entities so far are noted
abbrev pub invariant-loop-entity : goal.invariant-loop-entity
invariant-loop-entity l = AreNoted l.self (numbers (take l.entity-index l.entities)) (get nat_cmp l.holders)
