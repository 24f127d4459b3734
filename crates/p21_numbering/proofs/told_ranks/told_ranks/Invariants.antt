use Rattle.std.specs.Prelude.{◌≡◌, ◌<◌, ℕ, [], length, slice_index_or}
use Rattle.p21_numbering.specs.Arrays.{rank_at}
use Rattle.p21_numbering.specs.Keyed.{told_rank}
use Rattle.p21_numbering.specs.Rows.{held_rows, lent_rows}
use Rattle.p21_numbering.proofs.told_ranks.told_ranks.Given as goal

-- the ranks so far
abbrev pub invariant-loop-n : goal.invariant-loop-n
invariant-loop-n l = (length l.ranks.items ≡ l.n)
    × ((m : ℕ) → m < l.n → rank_at l.ranks.items m ≡ told_rank (lent_rows l.sorted) (rank_at l.rank m) (rank_at l.sizes (rank_at l.rank m))
    (slice_index_or (held_rows l.keys) m []))
