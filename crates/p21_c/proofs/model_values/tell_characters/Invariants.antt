use Rattle.std.proofs.Common.{◌≡◌, ◌≤◌, ℕ, List, length}
use Rattle.p21_c.specs.Filled.{IsToldNumber}
use Rattle.p21_c.proofs.Filling.{AreTold}
use Rattle.p21_model_values.specs.Spelled.{AreLeftCharacters}
use Rattle.p21_c.proofs.model_values.tell_characters.Given as goal

-- so many are told, and the others are left
abbrev pub invariant-loop-at : goal.invariant-loop-at
invariant-loop-at l =
    (length l.room ≡ length l.fn.room) × (l.at ≤ length l.room)
    × ((cs : List ℕ) → AreLeftCharacters cs l.fn.characters.rest.now
    → AreTold IsToldNumber (λ left. AreLeftCharacters left l.left.rest.now) cs l.room l.at)
