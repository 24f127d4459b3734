use Rattle.std.proofs.Common.{ℕ, ◌<◌, slice_index_or}
use Rattle.p21_spec_schema.specs.Supertype.{IsA}
use Rattle.p21_express_graph.specs.Meaning.{place}
use Rattle.p21_schema.specs.Decisions.{IsRedeclaring}
use Rattle.p21_schema.proofs.schema.Schema.is_below.Given as goal

abbrev pub invariant-loop-other : goal.invariant-loop-other
invariant-loop-other l = (k : ℕ) → k < l.other-index
    → IsRedeclaring l.self l.own (place l.place) (slice_index_or l.entities k record { 0 = 0 }).0
    → IsA l.self l.entity.0 (slice_index_or l.entities k record { 0 = 0 }).0
