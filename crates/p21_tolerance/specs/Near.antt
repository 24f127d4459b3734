-- When two numbers differ by no more than a third one, by their sizes.
use Rattle.std.specs.Prelude.{ℕ, ◌+◌, ◌≤◌, Bool, true, false}

-- two numbers of one sign, or of two
abbrev pub AreNear : Bool → ℕ → ℕ → ℕ → Type 0
AreNear true first second third = (first ≤ second + third) × (second ≤ first + third)
AreNear false first second third = first + second ≤ third
