use Rattle.std.specs.Prelude.{◌≡◌, ◌<◌, ℕ, None}
use Rattle.p21_numbering.specs.Ranked.{held_instances, ranked_at}
use Rattle.p21_numbering.proofs.orders.first_loose.Given as goal

abbrev pub invariant-loop-k : goal.invariant-loop-k
invariant-loop-k l = (j : ℕ) → j < l.k → (ranked_at (held_instances l.instances) j).loose ≡ None
