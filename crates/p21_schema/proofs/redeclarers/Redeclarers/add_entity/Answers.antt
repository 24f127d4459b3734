use Rattle.std.specs.Prelude.{List, map}
use Rattle.std.proofs.Common.{ap, ◌∙◌, subst}
use Rattle.p21_spec_schema.specs.Schema.{Place}
use Rattle.p21_express_graph.specs.Meaning.{place}
use Rattle.p21_express_graph.specs.SchemaContents.{entity, redeclared}
use Rattle.p21_schema.specs.Redeclarers.{AddsRedeclarer, explicit_places}
use Rattle.p21_schema.proofs.Owners.{adds-both}
use Rattle.p21_schema.proofs.redeclarers.Redeclarers.add_entity.Goals as goal

pub returns : goal.returns
returns c =
    let e = c.args.number.0 in
    let x = entity c.args.entity.now in
    let P : List Place → Type 0 = λ ps. AddsRedeclarer e ps c.args.self.now c.add_all.new.self in
    let Q : List Place → Type 0 = λ ps. AddsRedeclarer e ps c.add_all.new.self c.add_all-2.new.self in
    let explicit = ap (map place) c.deref-2.ensures.value ∙ c.in_ok-redeclared.ensures
    ∙ ap (λ rs. map (λ r. r.place) (map redeclared rs)) c.deref.ensures.value in
    adds-both e (explicit_places x) x.derived c.args.self.now c.add_all.new.self c.add_all-2.new.self
    (subst P explicit c.in_ok-add_all.ensures) (subst Q (ap (map place) c.deref-3.ensures.value) c.in_ok-add_all-2.ensures)
