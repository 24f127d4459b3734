-- Entities that are among others.
use Rattle.std.specs.Prelude.{◌↔◌, ℕ, List, Contains}

-- these are those of the second list that are in the first
abbrev pub AreThoseAmong : List ℕ → List ℕ → List ℕ → Type 0
AreThoseAmong entities some members = (e : ℕ) → Contains members e ↔ (Contains some e × Contains entities e)
