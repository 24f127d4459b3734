use Rattle.std.specs.List.{range_with_len}
use Rattle.std.specs.Prelude.{◌≡◌, map}
use Rattle.p21_numbering.specs.Ordering.{entry_of}
use Rattle.p21_numbering.specs.Ranked.{held_instances}
use Rattle.p21_numbering.proofs.orders.entries.Given as goal

abbrev pub invariant-loop-k : goal.invariant-loop-k
invariant-loop-k l = l.entries.items ≡ map (entry_of (held_instances l.instances) l.parts) (range_with_len 0 l.k)
