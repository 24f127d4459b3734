use Rattle.std.proofs.Common.{sym, ◌∙◌}
use Rattle.p21_stream_resume.proofs.Standing.{front-ends, front-goes, front-none, front-short}
use Rattle.p21_stream_resume.proofs.front.signpost_at_front.Goals as goal

pub returns-in-Ends : goal.returns-in-Ends
returns-in-Ends c = front-ends c.args.bytes.now c.loop-at.at c.loop-at.mode c.loop-at-test.true c.loop-at.invariant c.in-Ends.signpost (sym c.step.ensures ∙ c.in-Ends.is)

pub returns-then-size_in-at : goal.returns-then-size_in-at
returns-then-size_in-at c =
    front-none c.args.bytes.now c.loop-at.at c.loop-at.mode c.loop-at-test.true c.loop-at.invariant c.in-Goes.next (sym c.step.ensures ∙ c.in-Goes.is) (λ same. c.if-size_in-at.true (c.size_in.ensures ∙ same))

pub loop-at-preserved : goal.loop-at-preserved
loop-at-preserved c =
    front-goes c.args.bytes.now c.loop-at.at c.loop-at.mode c.loop-at-test.true c.loop-at.invariant c.in-Goes.next (sym c.step.ensures ∙ c.in-Goes.is) (sym c.size_in.ensures ∙ c.if-size_in-at.false)

pub returns : goal.returns
returns c = front-short c.args.bytes.now c.loop-at.at c.loop-at.mode c.loop-at-test.false c.loop-at.invariant
