-- Where the places of a name are looked for that an entity and its supertypes declare.
use Rattle.std.specs.Prelude.{◌<◌, ℕ, List, length, Contains}
use Rattle.p21_spec_schema.specs.Order.{order}
use Rattle.p21_spec_schema.specs.Redeclaration.{IsOwnPlace}
use Rattle.p21_spec_schema.specs.Schema.{Schema, Place}
use Rattle.p21_spec_schema.specs.Supertype.{IsA}

-- all of the order of the entity that declare an attribute of the name are among these, which are entities
pub record AreCandidates (s : Schema) (e : ℕ) (name : List ℕ) (owners : List ℕ) : Type 0 where
  pub all : (f : ℕ) (place : Place) → Contains (order s e) f → IsOwnPlace s f name place → Contains owners f
  pub within : (f : ℕ) → Contains owners f → f < length s.entities

-- a place of the name that the owner declares itself, which is the entity or a supertype of it
abbrev pub IsPlaceAbove : Schema → ℕ → ℕ → List ℕ → Place → Type 0
IsPlaceAbove s e owner name place = IsA s e owner × IsOwnPlace s owner name place
