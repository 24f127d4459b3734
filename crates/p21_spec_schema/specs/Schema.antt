-- A schema with all names resolved: an entity is its number among the entities, a type its number among the types, both in
-- the order of the declarations (ISO 10303-11, Schema declaration).
use Rattle.std.specs.Prelude.{◌≡◌, ℕ, Bool, true, List, [], Option, Some, None, slice_get}
use Rattle.std.specs.Cmp.Lexicographic.{slice_cmp}
use Rattle.std.specs.List.{AllZip}
use Rattle.std.specs.List.Sorted.{IsStrictlySortedBy}
use Rattle.std.specs.Ordering.{nat_cmp}

-- an explicit attribute, by the entity that declares it and its number among those of that entity, redeclarations apart
pub record Place : Type 0 where
  pub entity : ℕ
  pub index : ℕ

-- the most characters or bits, and whether there are exactly as many
pub record Width : Type 0 where
  pub most : ℕ
  pub fixed : Bool

-- A type where it is used. An array has its bounds, OPTIONAL and UNIQUE, a list its bounds and UNIQUE; the upper bound
-- of a list, set or bag may be missing
pub data TypeUse : Type 0 where
  whole : TypeUse
  real : TypeUse
  number : TypeUse
  boolean : TypeUse
  logical : TypeUse
  text : Option Width → TypeUse
  bits : Option Width → TypeUse
  entity : ℕ → TypeUse
  defined : ℕ → TypeUse
  array : ℕ → ℕ → Bool → Bool → TypeUse → TypeUse
  list : ℕ → Option ℕ → Bool → TypeUse → TypeUse
  set : ℕ → Option ℕ → TypeUse → TypeUse
  bag : ℕ → Option ℕ → TypeUse → TypeUse

-- a member of a select: an entity or a type
pub data Member : Type 0 where
  entity_member : ℕ → Member
  type_member : ℕ → Member

-- what a declared type is: another type under its name, an enumeration or a select
pub data Kind : Type 0 where
  alias : TypeUse → Kind
  items : List (List ℕ) → Kind
  choice : List Member → Kind

-- an explicit attribute
pub record Attribute : Type 0 where
  pub name : List ℕ
  pub optional : Bool
  pub type : TypeUse

-- a place that is redeclared as an explicit attribute
pub record Redeclared : Type 0 where
  pub place : Place
  pub optional : Bool
  pub type : TypeUse

-- an entity: its direct supertypes as listed, its own explicit attributes, and the places that it redeclares as explicit
-- and as derived attributes
pub record Entity : Type 0 where
  pub name : List ℕ
  pub is_abstract : Bool
  pub supertypes : List ℕ
  pub attributes : List Attribute
  pub redeclared : List Redeclared
  pub derived : List Place

-- a declared type
pub record Defined : Type 0 where
  pub name : List ℕ
  pub kind : Kind

-- a name, the entities, the types, and for each ONEOF list the entities of which an instance is one at most
pub record Schema : Type 0 where
  pub name : List ℕ
  pub entities : List Entity
  pub types : List Defined
  pub one_of_lists : List (List ℕ)

-- the entity of this number has this name
abbrev pub EntityNamed : Schema → ℕ → List ℕ → Type 0
EntityNamed s e name = (x : Entity) × (slice_get s.entities e ≡ Some x) × (x.name ≡ name)

-- byte by byte, the name of each entity is above that of the one before it
abbrev pub AreRisingByName : Schema → List ℕ → Type 0
AreRisingByName s entities = (names : List (List ℕ)) × AllZip (EntityNamed s) entities names × IsStrictlySortedBy (slice_cmp nat_cmp) names

-- the type of this number has this name
abbrev pub TypeNamed : Schema → ℕ → List ℕ → Type 0
TypeNamed s t name = (x : Defined) × (slice_get s.types t ≡ Some x) × (x.name ≡ name)

-- the entity of this number is abstract
abbrev pub IsAbstract : Schema → ℕ → Type 0
IsAbstract s e = (x : Entity) × (slice_get s.entities e ≡ Some x) × (x.is_abstract ≡ true)

-- the explicit attributes that an entity declares itself
abbrev pub attributes_of : Schema → ℕ → List Attribute
attributes_of s e = elim (slice_get s.entities e) [ Some x ↦ x.attributes | None ↦ [] ]

-- the declaration of a place
abbrev pub attribute_at : Schema → Place → Option Attribute
attribute_at s place = slice_get (attributes_of s place.entity) place.index

-- the attribute at the place has this name
abbrev pub PlaceNamed : Schema → Place → List ℕ → Type 0
PlaceNamed s place name = (a : Attribute) × (attribute_at s place ≡ Some a) × (a.name ≡ name)

-- what the type of this number is
abbrev pub kind_of : Schema → ℕ → Option Kind
kind_of s t = elim (slice_get s.types t) [ Some x ↦ Some x.kind | None ↦ None ]
