use Rattle.p21_shorter_tokens.proofs.Gaps.{one_more}
use Rattle.p21_shorter_tokens.proofs.gap.behind_many.Goals as goal

pub loop-next-preserved : goal.loop-next-preserved
loop-next-preserved c = λ end h. c.loop-next.invariant end (one_more c.loop-next.rest.now c.in-Some.next.now end c.in-Some.ensures.some h)
