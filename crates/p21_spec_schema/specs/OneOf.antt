-- Entities of which an instance is one at most (ISO 10303-11, Subtype/supertype constraints: ONEOF).
use Rattle.std.specs.Prelude.{◌≢◌, ℕ, List, Contains}
use Rattle.p21_spec_schema.specs.Schema.{Schema}

-- the set holds two different entities of one ONEOF list
abbrev pub Clashes : Schema → List ℕ → Type 0
Clashes s entities = (listed : List ℕ) × Contains s.one_of_lists listed × ((e f : ℕ) × Contains listed e × Contains listed f × (e ≢ f) × Contains entities e × Contains entities f)
