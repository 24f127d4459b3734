use Rattle.std.specs.Prelude.{List, [], map}
use Rattle.std.proofs.Common.{sym, subst}
use Rattle.p21_express_outline.specs.Redeclarations.{DigestDerivedAre, no_more}
use Rattle.p21_express_syntax.specs.Views.{entity_view}
use Rattle.p21_express_graph.specs.Meaning.{place as place_of}
use Rattle.p21_express_graph.specs.declared.number.Place.{Place}
use Rattle.p21_express.proofs.Deriving.{derived-more, derived-refused}
use Rattle.p21_express.proofs.derived.derived_of.Goals as goal

pub returns-in_err-add_derived : goal.returns-in_err-add_derived
returns-in_err-add_derived c =
    derived-refused c.args.hierarchy.now (map entity_view c.args.declared.now) c.args.entity.0 c.args.derived.now c.loop-name.name-index
    c.name-item.result c.in_err-add_derived.field-0.0 c.from_residual.result c.from_residual.ensures.0 c.from_residual.ensures.1
    c.loop-name-test.true c.name-item.is c.in_err-add_derived.ensures

pub loop-name-preserved : goal.loop-name-preserved
loop-name-preserved c =
    derived-more c.args.hierarchy.now (map entity_view c.args.declared.now) c.args.entity.0 c.args.derived.now c.loop-name.name-index
    c.name-item.result c.loop-name.found c.add_derived.new.out c.loop-name-test.true c.name-item.is c.loop-name.invariant
    c.in_ok-add_derived.ensures

pub loop-name-init : goal.loop-name-init
loop-name-init c =
    let P : List Place → Type 0 = λ found. DigestDerivedAre c.args.hierarchy.now (map entity_view c.args.declared.now) c.args.entity.0 []
    (map place_of found) in
    subst P (sym c.new-found.ensures.items) no_more
