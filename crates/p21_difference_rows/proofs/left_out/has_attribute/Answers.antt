use Rattle.std.specs.Prelude.{ℕ, List, Contains, refl}
use Rattle.std.proofs.Common.{get_or, subst}
use Rattle.p21_difference_rows.proofs.Knowing.{all-declared, both, declared-later, declared-none, declared-there}
use Rattle.p21_express_graph.proofs.Gatherings.{numbered-at}
use Rattle.p21_express_graph.proofs.OrderTables.{IsA-within, are-entities, order-tells}
use Rattle.p21_spec_schema.specs.Order.{order}
use Rattle.p21_difference_rows.proofs.left_out.has_attribute.Goals as goal

pub loop-owner-init : goal.loop-owner-init
loop-owner-init c =
    all-declared c.args.schema.now c.args.name.now c.holds_together.ensures c.args.entity.0 c.order_of-owner-items.result.now
    c.order_of-owner-items.ensures

pub declares-requires : goal.declares-requires
declares-requires c =
    let s = c.args.schema.now in
    let e : ℕ = (get_or c.order_of-owner-items.result.now c.loop-owner.owner-index record { 0 = 0 }).0 in
    let P : List ℕ → Type 0 = λ xs. Contains xs e in
    let among : Contains (order s c.args.entity.0) e = subst P c.order_of-owner-items.ensures
    (numbered-at (λ x. x.0) c.order_of-owner-items.result.now c.loop-owner.owner-index record { 0 = 0 } c.loop-owner-test.true) in
    IsA-within s (are-entities s c.holds_together.ensures) c.args.entity.0 e
    ((order-tells s c.holds_together.ensures c.args.entity.0 e).0 among) c.requires

pub returns-then-declares : goal.returns-then-declares
returns-then-declares c =
    let s = c.args.schema.now in
    let e : ℕ = (get_or c.order_of-owner-items.result.now c.loop-owner.owner-index record { 0 = 0 }).0 in
    let P : List ℕ → Type 0 = λ xs. Contains xs e in
    let among : Contains (order s c.args.entity.0) e = subst P c.order_of-owner-items.ensures
    (numbered-at (λ x. x.0) c.order_of-owner-items.result.now c.loop-owner.owner-index record { 0 = 0 } c.loop-owner-test.true) in (
      λ told. declared-there s c.args.name.now c.holds_together.ensures c.args.entity.0 e among (c.declares.ensures.0 c.if-declares.true),
      λ has. refl,
    )

pub loop-owner-preserved : goal.loop-owner-preserved
loop-owner-preserved c =
    declared-later c.args.schema.now c.args.name.now c.args.entity.0 c.order_of-owner-items.result.now c.loop-owner.owner-index _
    c.loop-owner-test.true (λ has. both _ (c.declares.ensures.1 has) c.if-declares.false) c.loop-owner.invariant

pub returns : goal.returns
returns c = (
  λ told. cc,
  λ has. absurd (declared-none c.args.schema.now c.args.name.now c.args.entity.0 c.order_of-owner-items.result.now c.loop-owner.owner-index
      c.loop-owner-test.false c.loop-owner.invariant has),
)
