use Rattle.std.proofs.Common.{take}
use Rattle.std.specs.List.{flat_map}
use Rattle.p21_express_graph.specs.Orders.{numbers}
use Rattle.p21_spec_schema.specs.Order.{order, own_places}
use Rattle.p21_shorter_instances.specs.Steps.{AreStepsAt}
use Rattle.p21_shorter_instances.proofs.step.find_steps.Given as goal

-- the steps of the entities so far
abbrev pub invariant-loop-owner : goal.invariant-loop-owner
invariant-loop-owner l = AreStepsAt l.schema (order l.schema l.entity.0)
    (flat_map (own_places l.schema) (numbers (take l.owner-index l.owner-items))) l.steps.items
