use Rattle.std.proofs.Common.{◌≤◌, ◌<◌, ◌-◌, length}
use Rattle.p21_stream_store.specs.Blocks.{first_at}
use Rattle.p21_stream_store.proofs.texts.text_in.Given as goal

abbrev pub invariant-loop-high : goal.invariant-loop-high
invariant-loop-high l = (l.low < l.high) × (l.high ≤ length l.full) × (first_at l.full l.end l.low ≤ l.index)
    × (l.index < first_at l.full l.end l.high)

abbrev pub decreases-loop-high : goal.decreases-loop-high
decreases-loop-high l = l.high - l.low
