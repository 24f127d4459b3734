use Rattle.std.specs.Prelude.{length}
use Rattle.std.proofs.Common.{sym, ◌∙◌}
use Rattle.std.proofs.lemmas.Bool.{eqb-true}
use Rattle.p21_express_graph.specs.Meaning.{place}
use Rattle.p21_express_graph.specs.Orders.{numbers}
use Rattle.p21_schema.proofs.schema.Schema.decision.Goals as goal
use Rattle.p21_schema.proofs.Decisions.{members-all}
use Rattle.p21_schema.proofs.Owners.{no-redeclarer, none-derives, none-redeclares}

pub returns-then-is_empty : goal.returns-then-is_empty
returns-then-is_empty c =
    let s = c.args.self.now in
    let p = place c.args.place in
    let none = no-redeclarer s p c.redeclarers_of.result.now
    (eqb-true (length c.redeclarers_of.result.now) 0 (sym c.is_empty.ensures ∙ c.if-is_empty.true)) c.redeclarers_of.ensures.all in
    (none-derives s p none (numbers c.args.entities.now), none-redeclares s p none (numbers c.args.entities.now))

pub returns : goal.returns
returns c = c.decision_among.ensures (numbers c.args.entities.now)
    (members-all c.args.self.now (numbers c.args.entities.now) (place c.args.place))
