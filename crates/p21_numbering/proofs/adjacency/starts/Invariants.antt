use Rattle.std.specs.Prelude.{◌≡◌, ◌≤◌, ◌+◌, ℕ, length}
use Rattle.p21_numbering.specs.Arrays.{IsStart, rank_at}
use Rattle.p21_numbering.proofs.adjacency.starts.Given as goal

abbrev pub invariant-loop-n : goal.invariant-loop-n
invariant-loop-n l = (length l.starts.items ≡ l.n-counter + 1) × ((m : ℕ) → m ≤ l.n-counter → IsStart l.edges m (rank_at l.starts.items m))
