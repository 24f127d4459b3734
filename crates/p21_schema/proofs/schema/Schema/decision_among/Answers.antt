use Rattle.std.specs.Prelude.{◌≡◌, true, false}
use Rattle.std.proofs.Common.{sym, ◌∙◌}
use Rattle.p21_express_graph.specs.Meaning.{place}
use Rattle.p21_express_graph.specs.Orders.{numbers}
use Rattle.p21_schema.proofs.schema.Schema.decision_among.Goals as goal
use Rattle.p21_schema.proofs.Decisions.{derived-in, derived-of, none-redeclared}

pub returns-then-is_derived_in : goal.returns-then-is_derived_in
returns-then-is_derived_in c set are =
    let (e, among, derives) = c.is_derived_in.ensures.0 c.if-is_derived_in.true in
    derived-in c.args.self.now (numbers c.args.entities.now) c.args.own (place c.args.place) set are e among derives

pub returns-in-Some : goal.returns-in-Some
returns-in-Some c set are =
    c.decision_by.ensures set are (λ derived. let t : true ≡ false =
    sym (c.is_derived_in.ensures.1 (derived-of c.args.self.now (numbers c.args.entities.now) c.args.own (place c.args.place) set are
    derived)) ∙ c.if-is_derived_in.false in cc)

pub returns-in-None : goal.returns-in-None
returns-in-None c set are = (
  λ derived. (let t : true ≡ false = sym (c.is_derived_in.ensures.1
      (derived-of c.args.self.now (numbers c.args.entities.now) c.args.own (place c.args.place) set are derived))
      ∙ c.if-is_derived_in.false in cc),
  none-redeclared c.args.self.now (numbers c.args.entities.now) c.args.own (place c.args.place) set are c.in-None.ensures,
)
