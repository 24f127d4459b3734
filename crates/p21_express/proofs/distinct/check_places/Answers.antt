use Rattle.std.specs.Prelude.{List, ◌++◌, map}
use Rattle.std.specs.List.{IsDistinct}
use Rattle.std.proofs.Common.{ap, ◌∙◌, subst}
use Rattle.std.proofs.lemmas.List.{map-append}
use Rattle.p21_spec_schema.specs.DeclaredEntity.{same_place}
use Rattle.p21_spec_schema.specs.Schema.{Place}
use Rattle.p21_express_outline.specs.Finding.{DecidesClaim}
use Rattle.p21_express_outline.proofs.Zips.{map-twice}
use Rattle.p21_express_graph.specs.declared.schema_contents.Redeclared.{Redeclared}
use Rattle.p21_express_graph.specs.Meaning.{place}
use Rattle.p21_express.proofs.distinct.check_places.Goals as goal

pub returns : goal.returns
returns c =
    let own = λ (r : Redeclared). r.place in
    let P : List Place → Type 0 = λ ps. DecidesClaim (IsDistinct same_place ps) c.check_once.result in
    subst P
    (ap (map place) (c.deref.ensures.value ∙ c.in_ok-places.ensures) ∙ map-append place (map own c.args.redeclared.now) c.args.derived.now
    ∙ ap (λ ps. ps ++ map place c.args.derived.now) (map-twice own place c.args.redeclared.now))
    c.check_once.ensures
