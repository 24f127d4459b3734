use Rattle.p21_express_graph.specs.Orders.{numbers}
use Rattle.p21_schema.proofs.schema.Schema.type_at.Goals as goal

pub decided_type-requires-clause-decided : goal.decided_type-requires-clause-decided
decided_type-requires-clause-decided c = (numbers c.args.entities.now, c.decision.ensures)

pub returns : goal.returns
returns c = c.decided_type.ensures (numbers c.args.entities.now) c.decision.ensures
