use Rattle.std.proofs.Common.{ℕ, ◌≡◌, ◌<◌, Some, slice_get}
use Rattle.p21_express_graph.specs.Orders.{numbers}
use Rattle.p21_mapping.proofs.positions.first_position.Given as goal

abbrev pub invariant-loop-at : goal.invariant-loop-at
invariant-loop-at l = (k : ℕ) → k < l.at → slice_get (numbers l.entities) k ≡ Some l.entity.0 → ⊥
