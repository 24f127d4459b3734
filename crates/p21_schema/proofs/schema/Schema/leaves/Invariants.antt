use Rattle.std.proofs.Common.{take}
use Rattle.p21_spec_schema.specs.Supertype.{LeavesAmong}
use Rattle.p21_express_graph.specs.Orders.{numbers}
use Rattle.p21_schema.proofs.schema.Schema.leaves.Given as goal

abbrev pub invariant-loop-entity : goal.invariant-loop-entity
invariant-loop-entity l = LeavesAmong l.self (numbers l.entities) (numbers (take l.entity-index l.entities)) (numbers l.leaves.items)
