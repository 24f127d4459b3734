use Rattle.std.proofs.Common.{ℕ, ◌≢◌, ◌<◌, slice_index_or}
use Rattle.p21_schema.specs.OneOf.{AreListedTogether}
use Rattle.p21_schema.proofs.schema.Schema.clashes_with.Given as goal

abbrev pub invariant-loop-other : goal.invariant-loop-other
invariant-loop-other l = (k : ℕ) → k < l.other-index → (slice_index_or l.entities k record { 0 = 0 }).0 ≢ l.entity.0
    → AreListedTogether l.self l.entity.0 (slice_index_or l.entities k record { 0 = 0 }).0 → ⊥
