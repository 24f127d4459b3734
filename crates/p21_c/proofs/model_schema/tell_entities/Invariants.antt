use Rattle.std.proofs.Common.{◌≡◌, ◌≤◌, length}
use Rattle.p21_c.specs.Filled.{IsToldNumber}
use Rattle.p21_c.proofs.Filling.{AreTold}
use Rattle.p21_express_graph.specs.Orders.{numbers}
use Rattle.p21_c.proofs.model_schema.tell_entities.Given as goal

-- so many are told, and the others are left
abbrev pub invariant-loop-at : goal.invariant-loop-at
invariant-loop-at l = (length l.room ≡ length l.fn.room) × (l.at ≤ length l.room)
    × AreTold IsToldNumber (λ left. left ≡ numbers l.left) (numbers l.fn.entities) l.room l.at
