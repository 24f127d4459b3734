use Rattle.std.proofs.Common.{◌≡◌, map, slice_index_or, take}
use Rattle.p21_express_graph.proofs.indexes.positions_at.Given as goal

abbrev pub invariant-loop-number : goal.invariant-loop-number
invariant-loop-number l = l.found.items ≡ map (λ e. slice_index_or l.places e 0) (take l.number-index l.numbers)
