use Rattle.std.specs.Prelude.{◌≡◌, ℕ, List, Contains, map, true, false, refl}
use Rattle.std.proofs.Common.{arith, sym, ◌∙◌, subst, get_or}
use Rattle.p21_express_syntax.specs.Views.{entity_view}
use Rattle.p21_express_graph.proofs.Gatherings.{numbered-at}
use Rattle.p21_express_graph.proofs.Lookups.{each-number, up-to}
use Rattle.p21_express_graph.proofs.OrderTables.{order-tells}
use Rattle.p21_express.specs.Derived.{DerivesItself}
use Rattle.p21_express.proofs.derived.derives_name.Goals as goal

pub returns-then-derives_itself : goal.returns-then-derives_itself
returns-then-derives_itself c =
    let f : ℕ = (get_or c.order_of-owner-items.result.now c.loop-owner.owner-index record { 0 = 0 }).0 in
    let P : List ℕ → Type 0 = λ fs. Contains fs f in
    let among = numbered-at (λ x. x.0) c.order_of-owner-items.result.now c.loop-owner.owner-index record { 0 = 0 } c.loop-owner-test.true in
    let (x, at, derives) = c.derives_itself.ensures.0 c.if-derives_itself.true in (
      λ yes. (
        f,
        x,
        (order-tells c.args.hierarchy.now c.holds_together.ensures c.args.entity.0 f).0
            (subst P c.order_of-owner-items.ensures among),
        at,
        derives,
      ),
      λ told. refl,
    )

pub loop-owner-preserved : goal.loop-owner-preserved
loop-owner-preserved c =
    up-to (λ k. DerivesItself (map entity_view c.args.declared.now) (get_or c.order_of-owner-items.result.now k record { 0 = 0 }).0
    c.args.name.now → ⊥) c.loop-owner.owner-index c.loop-owner.invariant
    (λ derives. let t : true ≡ false = sym (c.derives_itself.ensures.1 derives) ∙ c.if-derives_itself.false in cc)

pub returns : goal.returns
returns c = (
  λ no. let t : false ≡ true = no in cc,
  λ (f, x, is_a, at, derives).
      let P : List ℕ → Type 0 = λ fs. Contains fs f in
      absurd (each-number (λ y. y.0) record { 0 = 0 } (λ g. DerivesItself (map entity_view c.args.declared.now) g c.args.name.now → ⊥)
      c.order_of-owner-items.result.now f (λ k below. c.loop-owner.invariant k (omega (arith, below, c.loop-owner-test.false)))
      (subst P (sym c.order_of-owner-items.ensures) ((order-tells c.args.hierarchy.now c.holds_together.ensures c.args.entity.0 f).1 is_a))
      (x, at, derives)),
)
