use Rattle.std.proofs.Common.{◌∙◌, sym}
use Rattle.p21_shorter_instances.proofs.ArrangedElements.{rise-all, rise-first, rise-next}
use Rattle.p21_shorter_instances.proofs.order.are_rising.Goals as goal

pub loop-size-init : goal.loop-size-init
loop-size-init c = rise-first c.args.text.now c.args.lengths.now _ _ _ _ c.in-Some.ensures.cases.0 c.in-Some-split_element.ensures

pub loop-size-preserved : goal.loop-size-preserved
loop-size-preserved c =
    rise-next c.args.text.now c.args.lengths.now _ _ _ _ _ _ c.loop-size-test.true c.loop-size.invariant c.in-Some-split_element-2.ensures
    (sym c.is_below.ensures ∙ c.if-not-is_below.false)

pub returns : goal.returns
returns c = λ done. rise-all c.args.text.now c.args.lengths.now _ _ _ _ c.loop-size-test.false c.loop-size.invariant
