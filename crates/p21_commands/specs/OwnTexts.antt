-- The words of the places that entities declare themselves, in the lines of their subtypes.
use Rattle.std.specs.Prelude.{◌≡◌, ℕ, List, Option, None, Some, length, slice_get}
use Rattle.std.specs.Prelude as std
use Rattle.std.specs.List.{AllZip}
use Rattle.std.specs.declared.alloc.Global.{Global}
use Rattle.p21_express_graph.specs.Lookups.{DerivesPlace}
use Rattle.p21_spec_file.specs.ValueText.{with_commas}
use Rattle.p21_spec_schema.specs.Order.{own_places}
use Rattle.p21_spec_schema.specs.Schema.{Schema, Place, PlaceNamed}

-- the name of a place that no entity derives
abbrev pub IsPlainWord : Schema → Place → List ℕ → Type 0
IsPlainWord s place name = ¬ ((e : ℕ) × DerivesPlace s e place) × PlaceNamed s place name

-- the names of an entity's own places, with a comma before each; none is owed
abbrev pub IsOwnText : Schema → ℕ → Option (std.Vec ℕ Global) → Type 0
IsOwnText s e None = Unit {0}
IsOwnText s e (Some text) = (names : List (List ℕ)) × AllZip (IsPlainWord s) (own_places s e) names × (text.items ≡ with_commas names)

-- each entity has such a text
pub record AreOwnTexts (s : Schema) (texts : List (Option (std.Vec ℕ Global))) : Type 0 where
  pub size : length texts ≡ length s.entities
  pub each : (e : ℕ) (text : Option (std.Vec ℕ Global)) → slice_get texts e ≡ Some text → IsOwnText s e text
