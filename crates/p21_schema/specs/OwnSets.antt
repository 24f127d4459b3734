-- What holds of the set that an entity and its supertypes make.
use Rattle.std.specs.Prelude.{◌≡◌, ◌↔◌, ℕ, Bool, IsTrue, List, Some, length, slice_get, Contains}
use Rattle.p21_spec_schema.specs.Schema.{Schema, Place}
use Rattle.p21_spec_schema.specs.OneOf.{Clashes}
use Rattle.p21_spec_schema.specs.Order.{order, places}
use Rattle.p21_spec_schema.specs.PlaceType.{two_redeclarations, TypeAt}

-- redeclarations leave the place of the set open
abbrev pub IsOpenAt : Schema → ℕ → Place → Type 0
IsOpenAt s e place = Contains (places s e) place × TypeAt s (order s e) place two_redeclarations

-- and leave a place of it open
abbrev pub LeavesOpen : Schema → ℕ → Type 0
LeavesOpen s e = (place : Place) × IsOpenAt s e place

-- each says whether the own set of the entity of its number clashes
abbrev pub EachClashes : Schema → List Bool → Type 0
EachClashes s clashes = (e : ℕ) (clash : Bool) → slice_get clashes e ≡ Some clash → IsTrue clash ↔ Clashes s (order s e)

-- the table is complete
pub record AreOwnClashes (s : Schema) (clashes : List Bool) : Type 0 where
  pub size : length clashes ≡ length s.entities
  pub each : EachClashes s clashes
