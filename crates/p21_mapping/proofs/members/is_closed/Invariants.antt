use Rattle.std.proofs.Common.{ℕ, ◌<◌, slice_index_or, Contains}
use Rattle.p21_spec_schema.specs.Declared.{HasSupertype}
use Rattle.p21_mapping.proofs.members.is_closed.Given as goal

abbrev pub invariant-loop-entity : goal.invariant-loop-entity
invariant-loop-entity l = (k : ℕ) → k < l.entity-index → (f : ℕ) → HasSupertype l.schema (slice_index_or l.entities k record { 0 = 0 }).0 f
    → Contains l.positions f
