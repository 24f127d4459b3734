use Rattle.std.specs.Prelude.{ℕ, List, Contains}
use Rattle.std.proofs.Common.{inr, sym, subst}
use Rattle.p21_express_graph.specs.Meaning.{place}
use Rattle.p21_express_graph.specs.Orders.{numbers}
use Rattle.p21_express_graph.proofs.OrderTables.{order-tells}
use Rattle.p21_express_graph.proofs.Resolving.{own-entities}
use Rattle.p21_schema.proofs.Decisions.{own-derived}
use Rattle.p21_schema.proofs.schema.Schema.own_derives.Goals as goal

pub is_derived_in-requires-else-redeclarers-order-clause-entities : goal.is_derived_in-requires-else-redeclarers-order-clause-entities
is_derived_in-requires-else-redeclarers-order-clause-entities c =
    own-entities c.args.self.now c.holds_together.ensures c.args.entity.0 c.requires (numbers c.order_of-order.result.now)
    c.order_of-order.ensures

pub returns-then-redeclarers-order : goal.returns-then-redeclarers-order
returns-then-redeclarers-order c =
    let all = own-derived c.args.self.now c.holds_together.ensures c.args.entity (place c.args.place)
    (numbers c.redeclarers_of-redeclarers.result.now) (λ e is_a derives. c.redeclarers_of-redeclarers.ensures.all e (inr derives)) in
    (λ yes. all.0 (c.is_derived_in.ensures.0 yes), λ derived. c.is_derived_in.ensures.1 (all.1 derived))

pub returns-else-redeclarers-order : goal.returns-else-redeclarers-order
returns-else-redeclarers-order c =
    let s = c.args.self.now in
    let P : List ℕ → ℕ → Type 0 = λ es e. Contains es e in
    let all = own-derived s c.holds_together.ensures c.args.entity (place c.args.place) (numbers c.order_of-order.result.now)
    (λ e is_a derives. subst (λ es. P es e) (sym c.order_of-order.ensures)
    ((order-tells s c.holds_together.ensures c.args.entity.0 e).1 is_a)) in (
      λ yes. all.0 (c.is_derived_in-else-redeclarers-order.ensures.0 yes),
      λ derived. c.is_derived_in-else-redeclarers-order.ensures.1
          (all.1 derived),
    )
