use Rattle.std.proofs.Common.{ℕ, ◌<◌, slice_index_or}
use Rattle.p21_spec_schema.specs.Schema.{entity_member}
use Rattle.p21_spec_schema.specs.Select.{Offers}
use Rattle.p21_mapping.proofs.needed.has_offered.Given as goal

abbrev pub invariant-loop-part : goal.invariant-loop-part
invariant-loop-part l = (k : ℕ) → k < l.part-index
    → Offers l.schema l.select.0 (entity_member (slice_index_or l.parts k record { 0 = 0 }).0) → ⊥
