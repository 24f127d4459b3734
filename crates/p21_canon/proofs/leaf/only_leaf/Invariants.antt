use Rattle.std.proofs.Common.{◌≢◌, ℕ, ◌<◌, length, get_or}
use Rattle.p21_spec_schema.specs.Order.{order}
use Rattle.p21_canon.proofs.leaf.only_leaf.Given as goal

abbrev pub invariant-loop-entity : goal.invariant-loop-entity
invariant-loop-entity l = (k : ℕ) → k < l.entity-index
    → length (order l.schema (get_or l.entities k (record { 0 = 0 })).0) ≢ length l.entities
