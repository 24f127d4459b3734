use Rattle.std.proofs.Common.{take}
use Rattle.p21_express_graph.specs.Meaning.{place}
use Rattle.p21_express_graph.specs.Orders.{numbers}
use Rattle.p21_schema.proofs.Decisions.{IsLowestSeen}
use Rattle.p21_schema.proofs.schema.Schema.lowest.Given as goal

abbrev pub invariant-loop-entity : goal.invariant-loop-entity
invariant-loop-entity l = IsLowestSeen l.self (numbers l.entities) l.own (place l.place) (numbers (take l.entity-index l.entities)) l.lowest
