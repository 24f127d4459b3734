use Rattle.p21_spec_schema.specs.Order.{order}
use Rattle.p21_schema.proofs.schema.Schema.own_type.Goals as goal

pub decided_type-requires-clause-decided : goal.decided_type-requires-clause-decided
decided_type-requires-clause-decided c = (order c.args.self.now c.args.entity.0, c.own_decision.ensures)

pub returns : goal.returns
returns c = c.decided_type.ensures (order c.args.self.now c.args.entity.0) c.own_decision.ensures
