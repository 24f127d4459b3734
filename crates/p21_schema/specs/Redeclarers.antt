-- The places that entities redeclare: for each entity where they stand in its lists, and for each place the entities.
use Rattle.std.specs.Prelude.{◌≡◌, ◌<◌, ◌⊎◌, ◌++◌, ℕ, List, [], Option, Some, None, length, map, slice_get, Contains}
use Rattle.std.specs.Prelude as std
use Rattle.std.specs.declared.alloc.Global.{Global}
use Rattle.p21_spec_schema.specs.Schema.{Schema, Place, Entity}
use Rattle.p21_express_graph.specs.Lookups.{DerivesPlace}
use Rattle.p21_express_graph.specs.Orders.{numbers}
use Rattle.p21_express_graph.specs.Resolved.{IsEntity}
use Rattle.p21_schema.specs.Decisions.{IsRedeclarer}
use Rattle.p21_schema.specs.PlacePositions.{HavePositions}
use Rattle.p21_schema.specs.declared.redeclarers.EntityPlaces.{EntityPlaces}
use Rattle.p21_schema.specs.declared.redeclarers.RedeclaredPlaces.{RedeclaredPlaces}
use Rattle.p21_schema.specs.declared.redeclarers.Redeclarers.{Redeclarers}

-- the entity redeclares the place, as an explicit or as a derived attribute
abbrev pub RedeclaresPlace : Schema → ℕ → Place → Type 0
RedeclaresPlace s e place = IsRedeclarer s place e ⊎ DerivesPlace s e place

-- the places that an entity redeclares as explicit attributes, and all
abbrev pub explicit_places : Entity → List Place
explicit_places x = map (λ r. r.place) x.redeclared

abbrev pub places_redeclared : Entity → List Place
places_redeclared x = explicit_places x ++ x.derived

-- these are the positions in both lists of the entity
pub record ArePlacesOf (x : Entity) (places : EntityPlaces) : Type 0 where
  pub explicit_are : HavePositions places.redeclared (explicit_places x)
  pub derived_are : HavePositions places.derived x.derived

-- each entity has those of its lists
pub record ArePlacesOfEach (entities : List Entity) (of_each : List EntityPlaces) : Type 0 where
  pub size : length of_each ≡ length entities
  pub each : (e : ℕ) (x : Entity) (places : EntityPlaces) → slice_get entities e ≡ Some x → slice_get of_each e ≡ Some places
      → ArePlacesOf x places

-- the list at an index; none behind the last one
abbrev pub items_at : {T : Type 0} → List (std.Vec T Global) → ℕ → List T
items_at lists k = elim (slice_get lists k) [ Some list ↦ list.items | None ↦ [] ]

-- the entities that the table has for a place
abbrev pub redeclarers_in : Redeclarers → Place → List ℕ
redeclarers_in all p = numbers (items_at (items_at all.of_owners.items p.entity) p.index)

-- the table has for each place those that redeclare it
pub record AreRedeclarers (s : Schema) (redeclarers : Redeclarers) : Type 0 where
  pub all : (e : ℕ) (place : Place) → RedeclaresPlace s e place → Contains (redeclarers_in redeclarers place) e
  pub within : (e : ℕ) (place : Place) → Contains (redeclarers_in redeclarers place) e → IsEntity s e

-- it has none
abbrev pub AreNone : Redeclarers → Type 0
AreNone redeclarers = (p : Place) → redeclarers_in redeclarers p ≡ []

-- the entity has been added at each of the places
pub record AddsRedeclarer (e : ℕ) (places : List Place) (before after : Redeclarers) : Type 0 where
  pub here : (p : Place) → Contains places p → Contains (redeclarers_in after p) e
  pub kept : (p : Place) (f : ℕ) → Contains (redeclarers_in before p) f → Contains (redeclarers_in after p) f
  pub within : (p : Place) (f : ℕ) → Contains (redeclarers_in after p) f → Contains (redeclarers_in before p) f ⊎ (f ≡ e)

-- each of the entities has been added at the places that it redeclares
pub record AreRedeclarersOf (entities : List Entity) (redeclarers : Redeclarers) : Type 0 where
  pub all : (e : ℕ) (x : Entity) (p : Place) → slice_get entities e ≡ Some x → Contains (places_redeclared x) p
      → Contains (redeclarers_in redeclarers p) e
  pub within : (e : ℕ) (p : Place) → Contains (redeclarers_in redeclarers p) e → e < length entities

pub record AreRedeclared (s : Schema) (redeclared : RedeclaredPlaces) : Type 0 where
  pub each_are : ArePlacesOfEach s.entities redeclared.of_each.items
  pub redeclarers_are : AreRedeclarers s redeclared.redeclarers
