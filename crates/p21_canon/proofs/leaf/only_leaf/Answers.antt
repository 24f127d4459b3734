use Rattle.std.proofs.Common.{arith, rules, ◌≡◌, length}
use Rattle.p21_canon.proofs.Closure.{long-closure, no_order-no_leaf}
use Rattle.p21_canon.proofs.FoundRows.{each_entity, long-order}
use Rattle.p21_express_graph.proofs.Gatherings.{numbered-at}
use Rattle.p21_express_graph.specs.Orders.{numbers}
use Rattle.p21_express_graph.specs.declared.number.EntityId.{EntityId}
use Rattle.p21_canon.proofs.leaf.only_leaf.Goals as goal

pub order_of-requires : goal.order_of-requires
order_of-requires c = c.requires.entities _ (numbered-at (λ (e : EntityId). e.0) c.args.entities.now c.loop-entity.entity-index
    (record { 0 = 0 }) c.loop-entity-test.true)

pub returns-then-order_of-entities : goal.returns-then-order_of-entities
returns-then-order_of-entities c =
    let among = numbered-at (λ (e : EntityId). e.0) c.args.entities.now c.loop-entity.entity-index (record { 0 = 0 })
    c.loop-entity-test.true in
    let long : length c.order_of.result.now ≡ length c.args.entities.now = search rules in (
      among,
      long-closure _ c.well_formed-2.ensures (numbers c.args.entities.now) c.requires.closed _ among
          (long-order _ _ _ c.order_of.ensures long),
    )

pub returns : goal.returns
returns c = no_order-no_leaf _ c.well_formed-2.ensures (numbers c.args.entities.now) c.requires.closed
    (each_entity c.args.schema.now c.args.entities.now (record { 0 = 0 })
    (λ k low. c.loop-entity.invariant k (omega (arith, low, c.loop-entity-test.false))))
