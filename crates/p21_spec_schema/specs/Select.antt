-- The members of a select, where selects in it are replaced by their members (ISO 10303-11, Select data type).
use Rattle.std.specs.Prelude.{◌≡◌, ℕ, List, Some, Contains}
use Rattle.p21_spec_schema.specs.Schema.{Schema, Member, entity_member, type_member, choice, kind_of}

-- the type of this number is a select
abbrev pub IsSelect : Schema → ℕ → Type 0
IsSelect s t = (members : List Member) × (kind_of s t ≡ Some (choice members))

-- an entity, or a type that is no select
abbrev pub IsNoSelect : Schema → Member → Type 0
IsNoSelect s (entity_member e) = Unit {0}
IsNoSelect s (type_member t) = ¬ IsSelect s t

-- the member is an entity or a type other than a select, and stands in the select itself or in a select in it
pub data Offers (s : Schema) : ℕ → Member → Type 0 where
  offered : (t : ℕ) (members : List Member) (m : Member) → kind_of s t ≡ Some (choice members) → Contains members m → IsNoSelect s m → Offers s t m
  offered_within : (t u : ℕ) (members : List Member) (m : Member) → kind_of s t ≡ Some (choice members) → Contains members (type_member u) → Offers s u m → Offers s t m
