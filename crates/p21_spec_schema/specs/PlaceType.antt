-- What may stand at a place of an instance, where entities of its set redeclare the place (ISO 10303-11, Attribute redeclaration).
use Rattle.std.specs.Prelude.{◌≡◌, ℕ, ◌⊎◌, Bool, List, Some, slice_get, Contains}
use Rattle.p21_spec_schema.specs.Schema.{Schema, TypeUse, Place, Attribute, Redeclared, Entity, attribute_at}
use Rattle.p21_spec_schema.specs.Supertype.{IsA}

-- A derived attribute, or a value of a type, which is OPTIONAL or not; or entities redeclare the place and none of them decides
pub data PlaceType : Type 0 where
  derived_place : PlaceType
  stored_place : Bool → TypeUse → PlaceType
  two_redeclarations : PlaceType

-- an entity of the set redeclares the place as a derived attribute
abbrev pub IsDerivedIn : Schema → List ℕ → Place → Type 0
IsDerivedIn s entities place = (e : ℕ) × (x : Entity) × Contains entities e × (slice_get s.entities e ≡ Some x) × Contains x.derived place

-- the entity redeclares a place as this explicit attribute
abbrev pub Redeclares : Schema → ℕ → Redeclared → Type 0
Redeclares s e r = (x : Entity) × (slice_get s.entities e ≡ Some x) × Contains x.redeclared r

-- the entity is of the set, and redeclares the place so
abbrev pub IsRedeclaredIn : Schema → List ℕ → Place → ℕ → Redeclared → Type 0
IsRedeclaredIn s entities place e r = Contains entities e × Redeclares s e r × (r.place ≡ place)

-- some entity of the set redeclares the place as an explicit attribute
abbrev pub IsRedeclared : Schema → List ℕ → Place → Type 0
IsRedeclared s entities place = (e : ℕ) × (r : Redeclared) × IsRedeclaredIn s entities place e r

-- the redeclaration is that of an entity that is a subtype of all others of the set that redeclare the place
abbrev pub Decides : Schema → List ℕ → Place → Redeclared → Type 0
Decides s entities place r = (e : ℕ) × IsRedeclaredIn s entities place e r × ((f : ℕ) (other : Redeclared) → IsRedeclaredIn s entities place f other → IsA s e f)

-- the type at a place of an instance with this set: derived if an entity of the set derives it, else the redeclaration
-- that decides, else the declaration
abbrev pub TypeAt : Schema → List ℕ → Place → PlaceType → Type 0
TypeAt s entities place derived_place = IsDerivedIn s entities place
TypeAt s entities place (stored_place optional type) =
    ¬ IsDerivedIn s entities place
    × (((r : Redeclared) × Decides s entities place r × (r.optional ≡ optional) × (r.type ≡ type))
    ⊎ (¬ IsRedeclared s entities place × ((a : Attribute) × (attribute_at s place ≡ Some a) × (a.optional ≡ optional) × (a.type ≡ type))))
TypeAt s entities place two_redeclarations = ¬ IsDerivedIn s entities place × IsRedeclared s entities place × ((r : Redeclared) → ¬ Decides s entities place r)
