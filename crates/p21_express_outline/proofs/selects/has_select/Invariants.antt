use Rattle.std.proofs.Common.{ℕ, ◌<◌, slice_index_or}
use Rattle.p21_spec_schema.specs.Select.{IsSelect}
use Rattle.p21_express_graph.specs.SchemaContents.{schema_of}
use Rattle.p21_express_outline.proofs.selects.has_select.Given as goal

-- none so far
abbrev pub invariant-loop-number : goal.invariant-loop-number
invariant-loop-number l = (k : ℕ) → k < l.number-index → IsSelect (schema_of l.parts) (slice_index_or l.numbers k 0) → ⊥
