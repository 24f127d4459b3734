-- Entities that stand with all their supertypes.
use Rattle.std.specs.Prelude.{ℕ, List, Contains}
use Rattle.p21_spec_schema.specs.Schema.{Schema}
use Rattle.p21_spec_schema.specs.Supertype.{IsA}

-- of whoever is there, all supertypes are there
abbrev pub AreClosed : Schema → List ℕ → Type 0
AreClosed s xs = (e f : ℕ) → Contains xs e → IsA s e f → Contains xs f
