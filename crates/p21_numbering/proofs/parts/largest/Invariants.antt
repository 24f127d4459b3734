use Rattle.std.specs.Prelude.{◌≡◌, ◌<◌, ℕ, length}
use Rattle.p21_numbering.specs.Arrays.{rank_at}
use Rattle.p21_numbering.specs.Largest.{IsLargestAmong}
use Rattle.p21_numbering.proofs.parts.largest.Given as goal

abbrev pub invariant-loop-n : goal.invariant-loop-n
invariant-loop-n l = (length l.largest.items ≡ length l.new)
    × ((o : ℕ) → o < length l.new → IsLargestAmong (length l.new) l.n l.old l.new l.sizes o (rank_at l.largest.items o))
