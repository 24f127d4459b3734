-- Proper supertypes of entities.
use Rattle.std.specs.Prelude.{◌≢◌, ◌↔◌, ℕ, List, Contains}
use Rattle.p21_spec_schema.specs.Schema.{Schema}
use Rattle.p21_spec_schema.specs.Supertype.{IsA}

-- the second is a direct or indirect supertype of the first
abbrev pub IsAbove : Schema → ℕ → ℕ → Type 0
IsAbove s e f = IsA s e f × (f ≢ e)

-- these are the proper supertypes of the entities
abbrev pub AreAbove : Schema → List ℕ → List ℕ → Type 0
AreAbove s entities above = (f : ℕ) → Contains above f ↔ ((e : ℕ) × Contains entities e × IsAbove s e f)
