use Rattle.p21_express_graph.proofs.Gatherings.{numbered-at}
use Rattle.p21_express_graph.specs.Orders.{numbers}
use Rattle.p21_mapping.proofs.Shapes.{order-within}
use Rattle.p21_mapping.proofs.known.is_small.Goals as goal

pub attribute_count-requires : goal.attribute_count-requires
attribute_count-requires c =
    order-within c.args.schema.now c.holds_together.ensures c.args.entity.0 (numbers c.order_of-order.result.now) c.order_of-order.ensures
    c.requires _
    (numbered-at (λ e. e.0) c.order_of-order.result.now c.loop-owner.owner-index record { 0 = 0 } c.loop-owner-test.true)
