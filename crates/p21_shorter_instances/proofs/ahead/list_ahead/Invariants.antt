use Rattle.std.proofs.Common.{length}
use Rattle.p21_express_graph.specs.Lookups.{AreEntities}
use Rattle.p21_express_graph.specs.Orders.{numbers}
use Rattle.p21_shorter_instances.proofs.ahead.list_ahead.Given as goal

-- those so far are entities
abbrev pub invariant-loop-entity : goal.invariant-loop-entity
invariant-loop-entity l = AreEntities l.schema (numbers l.listed.items)

-- the rest gets shorter
abbrev pub decreases-loop-entity : goal.decreases-loop-entity
decreases-loop-entity l = length l.rest
