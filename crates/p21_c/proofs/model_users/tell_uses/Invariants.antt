use Rattle.std.proofs.Common.{◌≡◌, ◌≤◌, length}
use Rattle.p21_c.specs.Filled.{IsToldUse}
use Rattle.p21_c.proofs.Filling.{AreTold}
use Rattle.p21_c.proofs.model_users.tell_uses.Given as goal

-- so many are told, and the others are left
abbrev pub invariant-loop-at : goal.invariant-loop-at
invariant-loop-at l = (length l.room ≡ length l.fn.room) × (l.at ≤ length l.room)
    × AreTold IsToldUse (λ left. left ≡ l.left) l.fn.uses l.room l.at
