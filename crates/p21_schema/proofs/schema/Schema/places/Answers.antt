use Rattle.std.specs.Prelude.{ℕ, List, Contains, length}
use Rattle.std.proofs.Common.{subst, get_or}
use Rattle.p21_spec_schema.proofs.Orders.{order_within-only}
use Rattle.p21_express_graph.proofs.Gatherings.{numbered-at}
use Rattle.p21_express_graph.proofs.OrderTables.{IsA-within, are-entities}
use Rattle.p21_schema.proofs.schema.Schema.places.Goals as goal

pub push_own_places-requires : goal.push_own_places-requires
push_own_places-requires c =
    let e : ℕ = (get_or c.order_of-owner-items.result.now c.loop-owner.owner-index record { 0 = 0 }).0 in
    let P : List ℕ → Type 0 = λ xs. Contains xs e in
    IsA-within c.args.self.now (are-entities c.args.self.now c.holds_together.ensures) c.args.entity.0 e
    (order_within-only c.args.self.now (length c.args.self.now.entities) c.args.entity.0 e
    (subst P c.order_of-owner-items.ensures (numbered-at (λ x. x.0) c.order_of-owner-items.result.now c.loop-owner.owner-index
    record { 0 = 0 } c.loop-owner-test.true)))
    c.requires
