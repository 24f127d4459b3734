use Rattle.std.proofs.Common.{ap}
use Rattle.p21_express_graph.specs.Orders.{numbers}
use Rattle.p21_model.proofs.EntitySets.{no-numbers, none-handed, one-handed}
use Rattle.p21_model.proofs.entities.Entities.next.Goals as goal

pub returns-in-None-clause-handed : goal.returns-in-None-clause-handed
returns-in-None-clause-handed c entities tells =
    none-handed entities c.loop-self.self
    (c.in-None.ensures.told entities (c.loop-self.invariant.0 entities tells)
    (no-numbers c.loop-self.self.owners.now (rw c.loop-self-test.true at c.is_empty.ensures)))

pub returns-clause-handed : goal.returns-clause-handed
returns-clause-handed c entities tells =
    one-handed c.loop-self.self.schema.now (numbers c.loop-self.self.owners.now) c.loop-self.self.values.rest.now entities
    (numbers c.in-Some-split_first.owners.now) c.in-Some-split_first.entity.now _ (c.loop-self.invariant.0 entities tells)
    (ap numbers c.in-Some-split_first.ensures.cases.0) (λ later left. left)
