use Rattle.std.specs.Prelude.{◌≡◌, ◌≢◌, ◌<◌, ℕ}
use Rattle.p21_numbering.specs.Ranked.{held_instances, name_of, ranked_at}
use Rattle.p21_numbering.proofs.orders.other_of.Given as goal

abbrev pub invariant-loop-k : goal.invariant-loop-k
invariant-loop-k l = (j : ℕ) → j < l.k → (ranked_at (held_instances l.instances) j).rank ≡ l.rank
    → name_of (held_instances l.instances) j ≢ l.name → ⊥
