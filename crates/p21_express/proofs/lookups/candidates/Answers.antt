use Rattle.p21_express_graph.specs.Orders.{numbers}
use Rattle.p21_express.proofs.PlaceLemmas.{order-candidates, owner-candidates}
use Rattle.p21_express.proofs.lookups.candidates.Goals as goal

pub returns-then-owners-order : goal.returns-then-owners-order
returns-then-owners-order c = owner-candidates c.args.hierarchy.now c.args.entity.0 c.args.name.now (numbers c.in-Some.owners.now)
    c.in-Some.ensures

pub returns-else-owners-order : goal.returns-else-owners-order
returns-else-owners-order c = order-candidates c.args.hierarchy.now c.holds_together.ensures c.args.entity.0 c.args.name.now
    c.order_of-order.result.now c.requires.entity c.order_of-order.ensures

pub returns-in-None : goal.returns-in-None
returns-in-None c = order-candidates c.args.hierarchy.now c.holds_together.ensures c.args.entity.0 c.args.name.now
    c.order_of-order.result.now c.requires.entity c.order_of-order.ensures
