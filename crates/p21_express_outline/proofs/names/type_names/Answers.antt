use Rattle.std.specs.Prelude.{ℕ, List, map}
use Rattle.std.proofs.Common.{arith, ap, ◌∙◌, subst}
use Rattle.std.proofs.lemmas.List.{take_all}
use Rattle.p21_express_graph.specs.Rising.{texts_of}
use Rattle.p21_express_outline.specs.Finding.{KeepsNames}
use Rattle.p21_express_outline.proofs.Adding.{texts-next}
use Rattle.p21_express_outline.proofs.names.type_names.Goals as goal

pub loop-defined-preserved : goal.loop-defined-preserved
loop-defined-preserved c = texts-next (λ x. x.name) c.args.types.now c.loop-defined.defined-index c.defined-item.result
    c.loop-defined.names.items _ c.bytes.result c.loop-defined-test.true c.defined-item.is c.loop-defined.invariant
    c.in_ok-push.ensures.items c.bytes.ensures

pub returns : goal.returns
returns c =
    let P : List (List ℕ) → Type 0 = λ names. KeepsNames names c.distinct_names.result in
    subst P (ap texts_of c.deref.ensures.value ∙ c.loop-defined.invariant
    ∙ ap (map (λ x. x.name)) (take_all c.loop-defined.defined-index c.args.types.now (omega (arith, c.loop-defined-test.false))))
    c.distinct_names.ensures
