use Rattle.std.proofs.Common.{◌≡◌, ◌↔◌, ◌+◌, ◌*◌, ◌^◌, ◌<◌, ◌≤◌, min}
use Rattle.p21_tolerance.specs.Sums.{AreReadable, IsSumBelow, sum_of}
use Rattle.p21_tolerance.proofs.sums.is_at_most.Given as goal

-- what is ahead, with the digits that are left, compares as both sums do
abbrev pub invariant-loop-place : goal.invariant-loop-place
invariant-loop-place l = record {
  left_sums : AreReadable l.left;
  right_sums : AreReadable l.right;
  left_below : IsSumBelow l.left l.place;
  right_below : IsSumBelow l.right l.place;
  one : min l.ahead.left l.ahead.right ≡ 0;
  left_small : l.ahead.left < 2 ^ 70;
  right_small : l.ahead.right < 2 ^ 70;
  same : (sum_of l.fn.first ≤ sum_of l.fn.second)
      ↔ (l.ahead.left * 10 ^ l.place + sum_of l.left ≤ l.ahead.right * 10 ^ l.place + sum_of l.right);
}

abbrev pub decreases-loop-place : goal.decreases-loop-place
decreases-loop-place l = l.place
