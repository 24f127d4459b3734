use Rattle.std.proofs.Common.{ℕ, ◌<◌, slice_index_or}
use Rattle.p21_schema.proofs.OwnSets.{OpensOf}
use Rattle.p21_schema.proofs.schema.Schema.leaves_open.Given as goal

abbrev pub invariant-loop-owner : goal.invariant-loop-owner
invariant-loop-owner l = (k : ℕ) → k < l.owner-index → OpensOf l.self l.entity.0 (slice_index_or l.owner-items k record { 0 = 0 }).0 → ⊥
