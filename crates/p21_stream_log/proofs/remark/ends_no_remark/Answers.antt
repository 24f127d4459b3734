use Rattle.p21_stream_log.proofs.Boundless.{none-all, none-first, none-on}
use Rattle.p21_stream_log.proofs.Openings.{not-true}
use Rattle.p21_stream_log.proofs.remark.ends_no_remark.Goals as goal

pub loop-at-init : goal.loop-at-init
loop-at-init c = none-first c.args.bytes.now

pub loop-at-preserved : goal.loop-at-preserved
loop-at-preserved c = none-on c.args.bytes.now c.loop-at.at c.loop-at-test.true c.loop-at.invariant
    (λ star slash. not-true (c.if-is_remark_end.ensures.1 (star, slash)))

pub returns : goal.returns
returns c = λ _. none-all c.args.bytes.now c.loop-at.at c.loop-at-test.false c.loop-at.invariant
