use Rattle.std.proofs.Common.{arith}
use Rattle.p21_express.proofs.OwnerLists.{empty-more}
use Rattle.p21_express.proofs.named_owners.empty_lists.Goals as goal

pub loop-preserved : goal.loop-preserved
loop-preserved c = (
  omega (arith, c.loop.invariant.0, c.in_ok-push.ensures.len),
  empty-more c.loop.lists.items _ c.new.result
      c.loop.invariant.1 c.in_ok-push.ensures.items c.new.ensures.items,
)
