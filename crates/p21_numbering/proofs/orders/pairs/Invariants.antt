use Rattle.std.specs.List.{flat_map, range_with_len}
use Rattle.std.specs.Prelude.{◌≡◌}
use Rattle.p21_numbering.specs.Ordering.{pairs_from}
use Rattle.p21_numbering.specs.Ranked.{held_instances}
use Rattle.p21_numbering.proofs.orders.pairs.Given as goal

abbrev pub invariant-loop-k : goal.invariant-loop-k
invariant-loop-k l = l.pairs.items ≡ flat_map (pairs_from l.positions (held_instances l.instances)) (range_with_len 0 l.k)
