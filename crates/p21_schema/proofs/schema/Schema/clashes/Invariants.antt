use Rattle.std.proofs.Common.{ℕ, ◌<◌, slice_index_or}
use Rattle.p21_express_graph.specs.Orders.{numbers}
use Rattle.p21_schema.specs.OneOf.{ClashesWith}
use Rattle.p21_schema.proofs.schema.Schema.clashes.Given as goal

abbrev pub invariant-loop-entity : goal.invariant-loop-entity
invariant-loop-entity l = (k : ℕ) → k < l.entity-index
    → ClashesWith l.self (numbers l.entities) (slice_index_or l.entities k record { 0 = 0 }).0 → ⊥
