use Rattle.std.specs.Prelude.{ℕ, List, map}
use Rattle.std.proofs.Common.{arith, ap, ◌∙◌, subst}
use Rattle.std.proofs.lemmas.List.{take_all}
use Rattle.p21_express_graph.specs.Rising.{texts_of}
use Rattle.p21_express_outline.specs.Finding.{KeepsNames}
use Rattle.p21_express_outline.proofs.Adding.{texts-next}
use Rattle.p21_express_outline.proofs.names.entity_names.Goals as goal

pub loop-entity-preserved : goal.loop-entity-preserved
loop-entity-preserved c = texts-next (λ x. x.name) c.args.entities.now c.loop-entity.entity-index c.entity-item.result
    c.loop-entity.names.items _ c.bytes.result c.loop-entity-test.true c.entity-item.is c.loop-entity.invariant c.in_ok-push.ensures.items
    c.bytes.ensures

pub returns : goal.returns
returns c =
    let P : List (List ℕ) → Type 0 = λ names. KeepsNames names c.distinct_names.result in
    subst P (ap texts_of c.deref.ensures.value ∙ c.loop-entity.invariant
    ∙ ap (map (λ x. x.name)) (take_all c.loop-entity.entity-index c.args.entities.now (omega (arith, c.loop-entity-test.false))))
    c.distinct_names.ensures
