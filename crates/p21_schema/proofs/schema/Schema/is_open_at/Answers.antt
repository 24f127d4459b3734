use Rattle.std.specs.Prelude.{◌≡◌, true, false, refl}
use Rattle.std.proofs.Common.{subst}
use Rattle.p21_spec_schema.specs.Order.{order}
use Rattle.p21_express_graph.specs.Meaning.{place}
use Rattle.p21_schema.specs.Decisions.{IsDecision}
use Rattle.p21_schema.specs.declared.place_types.Decision.{Decision}
use Rattle.p21_schema.proofs.OwnSets.{two-only}
use Rattle.p21_schema.proofs.schema.Schema.is_open_at.Goals as goal

pub returns-in-Two : goal.returns-in-Two
returns-in-Two c =
    let P : Decision → Type 0 = λ d. IsDecision c.args.self.now (order c.args.self.now c.args.entity.0) (place c.args.place) d in
    (λ yes. subst P c.in-Two.is c.own_decision.ensures, λ open_. refl)

pub returns-in_default : goal.returns-in_default
returns-in_default c = (
  λ no. let t : false ≡ true = no in cc,
  λ open_. absurd (c.in_default.not-Two (two-only c.args.self.now (order c.args.self.now c.args.entity.0) (place c.args.place)
      c.own_decision.result c.own_decision.ensures open_)),
)
