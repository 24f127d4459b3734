use Rattle.std.proofs.Common.{ℕ, ◌<◌, slice_index_or}
use Rattle.p21_spec_schema.specs.Schema.{IsAbstract}
use Rattle.p21_mapping.proofs.shape.has_abstract.Given as goal

abbrev pub invariant-loop-entity : goal.invariant-loop-entity
invariant-loop-entity l = (k : ℕ) → k < l.entity-index → IsAbstract l.schema (slice_index_or l.entities k record { 0 = 0 }).0 → ⊥
