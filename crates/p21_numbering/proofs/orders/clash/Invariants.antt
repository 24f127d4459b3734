use Rattle.std.specs.Prelude.{◌<◌, ◌+◌, ℕ}
use Rattle.p21_numbering.specs.Ordering.{NoClash, entry_at}
use Rattle.p21_numbering.specs.Ranked.{held_instances}
use Rattle.p21_numbering.proofs.orders.clash.Given as goal

abbrev pub invariant-loop-next : goal.invariant-loop-next
invariant-loop-next l = (k : ℕ) → k + 1 < l.next → NoClash (held_instances l.instances) (entry_at l.sorted k) (entry_at l.sorted (k + 1))
