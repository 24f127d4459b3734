use Rattle.std.specs.Prelude.{List, Some, ℕ, length}
use Rattle.std.proofs.Common.{sym, subst, ◌∙◌}
use Rattle.std.proofs.lemmas.Bool.{eqb-true}
use Rattle.p21_spec_schema.specs.Order.{order}
use Rattle.p21_express_graph.specs.Meaning.{place}
use Rattle.p21_express_graph.specs.Orders.{numbers}
use Rattle.p21_express_graph.proofs.Resolving.{own-entities}
use Rattle.p21_schema.specs.Decisions.{AreMembers}
use Rattle.p21_schema.proofs.Decisions.{members-order, members-redeclarers}
use Rattle.p21_schema.proofs.OnlyRedeclarers.{one-among, one-redeclarer}
use Rattle.p21_schema.proofs.Owners.{no-redeclarer, none-derives, none-redeclares}
use Rattle.p21_schema.proofs.schema.Schema.own_decision.Goals as goal

pub returns-then-is_empty : goal.returns-then-is_empty
returns-then-is_empty c =
    let s = c.args.self.now in
    let p = place c.args.place in
    let own = order s c.args.entity.0 in
    let found = c.redeclarers_of-redeclarers in
    let none = no-redeclarer s p found.result.now (eqb-true (length found.result.now) 0 (sym c.is_empty.ensures ∙ c.if-is_empty.true))
    found.ensures.all in
    (none-derives s p none own, none-redeclares s p none own)

pub decision_of_one-requires-clause-only_is : goal.decision_of_one-requires-clause-only_is
decision_of_one-requires-clause-only_is c = c.redeclarers_of-redeclarers.ensures.within _
    (one-among c.redeclarers_of-redeclarers.result.now record { 0 = 0 } c.if-redeclarers-eq1.true)

pub decision_of_one-requires-clause-only : goal.decision_of_one-requires-clause-only
decision_of_one-requires-clause-only c e is = one-redeclarer c.redeclarers_of-redeclarers.result.now record { 0 = 0 }
    c.if-redeclarers-eq1.true e (c.redeclarers_of-redeclarers.ensures.all e is)

pub decision_among-requires-else-redeclarers-order-clause-entities : goal.decision_among-requires-else-redeclarers-order-clause-entities
decision_among-requires-else-redeclarers-order-clause-entities c =
    own-entities c.args.self.now c.holds_together.ensures c.args.entity.0 c.requires (numbers c.order_of-order.result.now)
    c.order_of-order.ensures

pub returns-then-redeclarers-order : goal.returns-then-redeclarers-order
returns-then-redeclarers-order c =
    c.decision_among.ensures (order c.args.self.now c.args.entity.0)
    (members-redeclarers c.args.self.now c.holds_together.ensures c.args.entity (place c.args.place)
    (numbers c.redeclarers_of-redeclarers.result.now) c.redeclarers_of-redeclarers.ensures.all)

pub returns-else-redeclarers-order : goal.returns-else-redeclarers-order
returns-else-redeclarers-order c =
    let s = c.args.self.now in
    let P : List ℕ → Type 0 = λ es. AreMembers s es (Some c.args.entity) (place c.args.place) (order s c.args.entity.0) in
    c.decision_among-else-redeclarers-order.ensures (order s c.args.entity.0)
    (subst P (sym c.order_of-order.ensures) (members-order s c.holds_together.ensures c.args.entity (place c.args.place)))
