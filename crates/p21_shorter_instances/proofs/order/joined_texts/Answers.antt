use Rattle.p21_shorter_instances.proofs.ArrangedElements.{left-none, left-over}
use Rattle.p21_shorter_instances.proofs.order.joined_texts.Goals as goal

pub loop-size-preserved : goal.loop-size-preserved
loop-size-preserved c =
    left-over c.args.text.now c.args.lengths.now _ _ _ _ _ _ c.loop-size-test.true c.loop-size.invariant c.in-Some.ensures
    c.in_ok-extend_from_slice.ensures.items

pub returns : goal.returns
returns c = left-none c.args.text.now c.args.lengths.now _ _ _ c.loop-size-test.false c.loop-size.invariant
