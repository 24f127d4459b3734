use Rattle.std.specs.Prelude.{◌≡◌, ◌<◌, ℕ, length, not, nat_eq}
use Rattle.p21_numbering.specs.Arrays.{rank_at, marked}
use Rattle.p21_numbering.proofs.parts.fresh_nodes.Given as goal

abbrev pub invariant-loop-n : goal.invariant-loop-n
invariant-loop-n l = (length l.fresh.items ≡ l.n) × ((m : ℕ) → m < l.n
    → marked l.fresh.items m ≡ not (nat_eq (rank_at l.largest.items (rank_at l.old m)) (rank_at l.new m)))
