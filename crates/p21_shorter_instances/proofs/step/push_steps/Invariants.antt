use Rattle.std.proofs.Common.{List, ◌++◌}
use Rattle.p21_express_graph.specs.Lookups.{places_from}
use Rattle.p21_spec_schema.specs.Order.{order}
use Rattle.p21_spec_schema.specs.Schema.{Place}
use Rattle.p21_shorter_instances.specs.Steps.{AreStepsAt}
use Rattle.p21_shorter_instances.proofs.step.push_steps.Given as goal

-- the steps of the attributes so far stand behind those before
abbrev pub invariant-loop-index : goal.invariant-loop-index
invariant-loop-index l =
    (before : List Place) → AreStepsAt l.schema (order l.schema l.entity.0) before l.fn.steps.items
    → AreStepsAt l.schema (order l.schema l.entity.0) (before ++ places_from l.owner.0 0 l.index) l.steps.items
