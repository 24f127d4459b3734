use Rattle.std.proofs.Common.{◌≡◌, map, slice_index_or, take}
use Rattle.p21_express_graph.specs.Orders.{numbers}
use Rattle.p21_schema.proofs.rising.entities_at.Given as goal

abbrev pub invariant-loop-rank : goal.invariant-loop-rank
invariant-loop-rank l = numbers l.found.items ≡ map (λ rank. slice_index_or (numbers l.rising) rank 0) (take l.rank-index l.ranks)
