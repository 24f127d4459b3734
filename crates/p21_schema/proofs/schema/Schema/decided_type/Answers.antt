use Rattle.std.proofs.Common.{◌≡◌, ap, sym, ◌∙◌, subst, inl}
use Rattle.p21_express_graph.specs.Meaning.{place, type_use}
use Rattle.p21_express_graph.specs.SchemaContents.{redeclared}
use Rattle.p21_schema.specs.Decisions.{IsDecision}
use Rattle.p21_schema.specs.declared.place_types.Decision.{Decision}
use Rattle.p21_schema.proofs.schema.Schema.decided_type.Goals as goal
use Rattle.p21_schema.proofs.Decisions.{redeclared-one}

pub returns-in-Redeclared : goal.returns-in-Redeclared
returns-in-Redeclared c entities is =
    let P : Decision → Type 0 = λ d. IsDecision c.args.self.now entities (place c.args.place) d in
    let (stored, (r, stands, decides)) = subst P c.in-Redeclared.is is in
    let same : r ≡ redeclared c.redeclared_at-redeclared.result.now =
    redeclared-one c.args.self.now c.in-Redeclared.entity.0 c.in-Redeclared.at r (redeclared c.redeclared_at-redeclared.result.now)
    stands c.redeclared_at-redeclared.ensures in
    (stored, inl (r, decides, ap (λ x. x.optional) same, ap (λ x. x.type) same ∙ ap type_use (sym c.deref-in-Redeclared.ensures)))
