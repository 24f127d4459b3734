use Rattle.std.proofs.Common.{arith, ◌∙◌}
use Rattle.std.proofs.Math.ListN.{length-set}
use Rattle.p21_express_syntax.proofs.Uppered.{one_more}
use Rattle.p21_express_syntax.proofs.names.word_of.Goals as goal

pub loop-count-preserved : goal.loop-count-preserved
loop-count-preserved c =
    let place = c.loop-count.place in
    let count = c.loop-count.count in
    let kept = c.loop-count.invariant in
    let uppered = one_more place c.args.name.now count c.upper.result (omega arith) c.loop-count-test.true c.upper.ensures kept.0 in
    (uppered, omega arith, length-set place count c.upper.result ∙ kept.2)
