use Rattle.p21_express_graph.specs.Lookups.{AreEntities}
use Rattle.p21_express_graph.specs.Orders.{numbers}
use Rattle.p21_test_express.proofs.lookups.entities_named.Given as goal

-- the entities so far are of the schema
abbrev pub invariant-loop-name : goal.invariant-loop-name
invariant-loop-name l = AreEntities l.schema (numbers l.entities.items)
