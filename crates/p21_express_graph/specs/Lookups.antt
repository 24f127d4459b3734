-- Words of look-ups over lists of entities.
use Rattle.std.specs.Prelude.{◌≡◌, ℕ, zero, suc, ◌+◌, List, [], ◌∷◌, Some, slice_get, Contains}
use Rattle.p21_spec_schema.specs.Schema.{Schema, Place, Entity, Redeclared}
use Rattle.p21_spec_schema.specs.Supertype.{IsA}
use Rattle.p21_spec_schema.specs.PlaceType.{Redeclares, IsRedeclaredIn}
use Rattle.p21_express_graph.specs.Resolved.{IsEntity}

-- all are entities of the schema
abbrev pub AreEntities : Schema → List ℕ → Type 0
AreEntities s entities = (e : ℕ) → Contains entities e → IsEntity s e

-- the places of an entity from one number on
abbrev pub places_from : ℕ → ℕ → ℕ → List Place
places_from e k zero = []
places_from e k (suc n) = record { entity = e; index = k } ∷ places_from e (k + 1) n

-- the entity redeclares the place as a derived attribute
abbrev pub DerivesPlace : Schema → ℕ → Place → Type 0
DerivesPlace s e place = (x : Entity) × (slice_get s.entities e ≡ Some x) × Contains x.derived place

-- the entity redeclares the place so
abbrev pub RedeclaresAt : Schema → ℕ → Place → Redeclared → Type 0
RedeclaresAt s e place r = Redeclares s e r × (r.place ≡ place)

-- the entity is a subtype of all of the set that redeclare the place
abbrev pub IsBelow : Schema → List ℕ → Place → ℕ → Type 0
IsBelow s entities place e = (f : ℕ) (other : Redeclared) → IsRedeclaredIn s entities place f other → IsA s e f
