use Rattle.std.proofs.Common.{ℕ, ◌<◌, slice_index_or, Contains}
use Rattle.p21_mapping.proofs.members.has_all.Given as goal

abbrev pub invariant-loop-other : goal.invariant-loop-other
invariant-loop-other l = (k : ℕ) → k < l.other-index → Contains l.positions (slice_index_or l.others k record { 0 = 0 }).0
