use Rattle.std.proofs.Common.{◌≡◌, length}
use Rattle.p21_express_graph.proofs.FirstPositions.{AreMarked}
use Rattle.p21_express_graph.proofs.indexes.used_runs.Given as goal

-- the runs of the first fronts are marked
abbrev pub invariant-loop-above : goal.invariant-loop-above
invariant-loop-above l = (length l.used.items ≡ l.count) × AreMarked l.all l.above-index l.used.items
