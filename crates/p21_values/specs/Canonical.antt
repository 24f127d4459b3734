-- What a call that appends leaves behind.
use Rattle.std.specs.Prelude.{◌≡◌, ℕ, List, ◌++◌}

-- the new bytes begin with the old ones
abbrev pub Continues : List ℕ → List ℕ → Type 0
Continues old new = (tail : List ℕ) × (new ≡ old ++ tail)
