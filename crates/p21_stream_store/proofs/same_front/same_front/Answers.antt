use Rattle.std.proofs.Common.{arith}
use Rattle.p21_stream_store.proofs.LaneLemmas.{more-same}
use Rattle.p21_stream_store.proofs.same_front.same_front.Goals as goal

pub loop-at-preserved : goal.loop-at-preserved
loop-at-preserved c = (
  omega (arith, c.loop-at-test.true, c.loop-at.invariant.0),
  more-same c.args.entities.now c.args.others.now c.loop-at.at c.loop-at.invariant.1 (c.has_same_row.ensures c.if-has_same_row.true),
)
