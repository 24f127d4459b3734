use Rattle.std.specs.Prelude.{◌≡◌, ◌<◌, ℕ, [], length, slice_index_or}
use Rattle.p21_numbering.specs.Arrays.{rank_at, ranks_of, uses_of}
use Rattle.p21_numbering.specs.Keyed.{IsKeyed}
use Rattle.p21_numbering.specs.Rows.{held_rows}
use Rattle.p21_numbering.proofs.key_rows.keys.Given as goal

abbrev pub invariant-loop-n : goal.invariant-loop-n
invariant-loop-n l = (length l.keys.items ≡ l.n) × ((m : ℕ) → m < l.n
    → IsKeyed (rank_at l.rank m) (rank_at l.sizes (rank_at l.rank m)) (ranks_of l.rank l.fresh) (uses_of l.uses m) (uses_of l.users m)
    (slice_index_or (held_rows l.keys.items) m []))
