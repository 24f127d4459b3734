use Rattle.std.specs.Prelude.{◌≡◌, ℕ, List, Contains, true, false, refl}
use Rattle.std.proofs.Common.{arith, sym, ◌∙◌, subst, get_or}
use Rattle.p21_express_graph.specs.Orders.{numbers}
use Rattle.p21_express_graph.proofs.Gatherings.{numbered-at}
use Rattle.p21_express_graph.proofs.Lookups.{up-to, each-number}
use Rattle.p21_express_graph.proofs.Resolving.{own-entities}
use Rattle.p21_schema.proofs.OwnSets.{OpensOf, opens, opened}
use Rattle.p21_schema.proofs.schema.Schema.leaves_open.Goals as goal

pub leaves_open_of-requires-clause-owner : goal.leaves_open_of-requires-clause-owner
leaves_open_of-requires-clause-owner c =
    own-entities c.args.self.now c.holds_together.ensures c.args.entity.0 c.requires (numbers c.order_of-owner-items.result.now)
    c.order_of-owner-items.ensures (get_or c.order_of-owner-items.result.now c.loop-owner.owner-index record { 0 = 0 }).0
    (numbered-at (λ e. e.0) c.order_of-owner-items.result.now c.loop-owner.owner-index record { 0 = 0 } c.loop-owner-test.true)

pub returns-then-leaves_open_of : goal.returns-then-leaves_open_of
returns-then-leaves_open_of c =
    let owner : ℕ = (get_or c.order_of-owner-items.result.now c.loop-owner.owner-index record { 0 = 0 }).0 in
    let P : List ℕ → Type 0 = λ es. Contains es owner in
    let in_order = subst P c.order_of-owner-items.ensures
    (numbered-at (λ e. e.0) c.order_of-owner-items.result.now c.loop-owner.owner-index record { 0 = 0 } c.loop-owner-test.true) in
    (λ yes. opens c.args.self.now c.args.entity.0 owner in_order (c.leaves_open_of.ensures.0 c.if-leaves_open_of.true), λ open_. refl)

pub loop-owner-preserved : goal.loop-owner-preserved
loop-owner-preserved c =
    up-to (λ k. OpensOf c.args.self.now c.args.entity.0 (get_or c.order_of-owner-items.result.now k record { 0 = 0 }).0 → ⊥)
    c.loop-owner.owner-index c.loop-owner.invariant
    (λ open_. let t : true ≡ false = sym (c.leaves_open_of.ensures.1 open_) ∙ c.if-leaves_open_of.false in cc)

pub returns : goal.returns
returns c = (
  λ no. let t : false ≡ true = no in cc,
  λ open_.
      let (owner, in_order, opens_of) = opened c.args.self.now c.args.entity.0 open_ in
      let P : List ℕ → Type 0 = λ es. Contains es owner in
      absurd (each-number (λ e. e.0) record { 0 = 0 } (λ g. OpensOf c.args.self.now c.args.entity.0 g → ⊥) c.order_of-owner-items.result.now
      owner
      (λ k below. c.loop-owner.invariant k (omega (arith, below, c.loop-owner-test.false)))
      (subst P (sym c.order_of-owner-items.ensures) in_order) opens_of),
)
