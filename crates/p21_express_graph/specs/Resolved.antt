-- What holds of a schema once all names are resolved: each number is that of an entity, a type or a place of it, and no
-- chain comes back (ISO 10303-11, Scope and visibility).
use Rattle.std.specs.Prelude.{ℕ, ◌+◌, ◌<◌, ◌≤◌, ◌^◌, length}
use Rattle.std.specs.List.{AllByRecursion as Each}
use Rattle.p21_spec_schema.specs.Schema.{Schema, TypeUse, entity, defined, array, list, set, bag, Member, entity_member, type_member, Kind, alias, items, choice, Place, Attribute, Redeclared, Entity, attributes_of}
use Rattle.p21_spec_schema.specs.Declared.{HasNoCircle, HasSupertype, Renames, HasSelect, most_declarations}
use Rattle.p21_spec_schema.specs.WellFormed.{HasDistinctEntities, HasDistinctTypes, RedeclaresOnce}

-- the number is that of an entity
abbrev pub IsEntity : Schema → ℕ → Type 0
IsEntity s e = e < length s.entities

-- the number is that of a type
abbrev pub IsType : Schema → ℕ → Type 0
IsType s t = t < length s.types

-- the place is that of an explicit attribute
abbrev pub IsPlace : Schema → Place → Type 0
IsPlace s p = p.index < length (attributes_of s p.entity)

-- each entity and each type in it is one of the schema
abbrev pub IsTypeUse : Schema → TypeUse → Type 0
IsTypeUse s (entity e) = IsEntity s e
IsTypeUse s (defined t) = IsType s t
IsTypeUse s (array low high optional unique element) = IsTypeUse s element
IsTypeUse s (list low high unique element) = IsTypeUse s element
IsTypeUse s (set low high element) = IsTypeUse s element
IsTypeUse s (bag low high element) = IsTypeUse s element
IsTypeUse s other = Unit {0}

-- the member is of the schema
abbrev pub IsMember : Schema → Member → Type 0
IsMember s (entity_member e) = IsEntity s e
IsMember s (type_member t) = IsType s t

abbrev pub IsKind : Schema → Kind → Type 0
IsKind s (alias type) = IsTypeUse s type
IsKind s (items words) = Unit {0}
IsKind s (choice members) = Each (IsMember s) members

abbrev pub IsAttribute : Schema → Attribute → Type 0
IsAttribute s a = IsTypeUse s a.type

abbrev pub IsRedeclared : Schema → Redeclared → Type 0
IsRedeclared s r = IsPlace s r.place × IsTypeUse s r.type

-- all that an entity names is of the schema; its attributes can be numbered
pub record IsResolved (s : Schema) (x : Entity) : Type 0 where
  pub few : length x.attributes < 2 ^ 32
  pub supertypes_are : Each (IsEntity s) x.supertypes
  pub attributes_are : Each (IsAttribute s) x.attributes
  pub redeclared_are : Each (IsRedeclared s) x.redeclared
  pub derived_are : Each (IsPlace s) x.derived

-- all names are resolved and told apart, no place is redeclared twice by an entity, and no chain of supertypes, of renamed
-- types or of selects in selects comes back
pub record HoldsTogether (s : Schema) : Type 0 where
  pub entities_are : Each (IsResolved s) s.entities
  pub types_are : Each (λ x. IsKind s x.kind) s.types
  pub one_of_are : Each (Each (IsEntity s)) s.one_of_lists
  pub few : length s.entities + length s.types ≤ most_declarations
  pub supertypes_end : HasNoCircle (HasSupertype s)
  pub renaming_ends : HasNoCircle (Renames s)
  pub selects_end : HasNoCircle (HasSelect s)
  pub entities_distinct : HasDistinctEntities s
  pub types_distinct : HasDistinctTypes s
  pub redeclares_once : RedeclaresOnce s
