use Rattle.std.specs.Prelude.{ℕ, List, Contains}
use Rattle.std.proofs.Common.{sym, subst}
use Rattle.p21_spec_schema.specs.Schema.{Schema}
use Rattle.p21_express_graph.specs.Meaning.{place}
use Rattle.p21_schema.specs.Redeclarers.{AreRedeclared}
use Rattle.p21_schema.proofs.schema.Schema.redeclarers_of.Goals as goal

pub returns-clause-all : goal.returns-clause-all
returns-clause-all c e is =
    let P : Schema → Type 0 = λ s. AreRedeclared s c.self.inside.tables.redeclared in
    let Q : List ℕ → Type 0 = λ es. Contains es e in
    subst Q (sym c.of.ensures) ((subst P c.self.view_is c.self.invariant.redeclared_are).redeclarers_are.all e (place c.args.place) is)

pub returns-clause-within : goal.returns-clause-within
returns-clause-within c e among =
    let P : Schema → Type 0 = λ s. AreRedeclared s c.self.inside.tables.redeclared in
    let Q : List ℕ → Type 0 = λ es. Contains es e in
    (subst P c.self.view_is c.self.invariant.redeclared_are).redeclarers_are.within e (place c.args.place) (subst Q c.of.ensures among)
