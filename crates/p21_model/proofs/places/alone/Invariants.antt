use Rattle.std.proofs.Common.{length}
use Rattle.std.specs.Prelude.{Contains}
use Rattle.p21_express_graph.specs.Orders.{numbers}
use Rattle.p21_model.proofs.places.alone.Given as goal

-- it is among those that are left
abbrev pub invariant-loop-first : goal.invariant-loop-first
invariant-loop-first l = Contains (numbers l.fn.entities) l.entity.0 → Contains (numbers l.rest) l.entity.0

abbrev pub decreases-loop-first : goal.decreases-loop-first
decreases-loop-first l = length l.rest
