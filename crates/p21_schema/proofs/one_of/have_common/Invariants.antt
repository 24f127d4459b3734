use Rattle.std.proofs.Common.{ℕ, ◌<◌, ◌≤◌, length, slice_index_or, Contains}
use Rattle.p21_schema.proofs.one_of.have_common.Given as goal

-- the numbers so far are none of the others, and those in front of the place are below the numbers that are left
abbrev pub invariant-loop-number : goal.invariant-loop-number
invariant-loop-number l = (l.place ≤ length l.others)
    × ((k : ℕ) → k < l.number-index → Contains l.others (slice_index_or l.numbers k 0) → ⊥)
    × ((k i : ℕ) → k < l.place → l.number-index ≤ i → i < length l.numbers → slice_index_or l.others k 0 < slice_index_or l.numbers i 0)
