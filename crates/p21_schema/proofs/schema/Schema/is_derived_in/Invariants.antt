use Rattle.std.proofs.Common.{ℕ, ◌<◌, slice_index_or}
use Rattle.p21_express_graph.specs.Meaning.{place}
use Rattle.p21_schema.specs.Decisions.{IsDeriving}
use Rattle.p21_schema.proofs.schema.Schema.is_derived_in.Given as goal

abbrev pub invariant-loop-entity : goal.invariant-loop-entity
invariant-loop-entity l = (k : ℕ) → k < l.entity-index
    → IsDeriving l.self l.own (place l.place) (slice_index_or l.entities k record { 0 = 0 }).0 → ⊥
