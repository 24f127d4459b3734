use Rattle.std.proofs.Common.{◌<◌, ℕ, slice_index_or}
use Rattle.p21_express_graph.specs.Walk.{IsDone}
use Rattle.p21_express_graph.proofs.settle.first_open.Given as goal

abbrev pub invariant-loop-number : goal.invariant-loop-number
invariant-loop-number l = (k d : ℕ) → k < l.number-index → IsDone l.done (slice_index_or l.numbers k d)
