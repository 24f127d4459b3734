-- What each schema that a text declares is, in the words of its numbers alone (ISO 10303-11, Scope and visibility; Subtypes
-- and supertypes; Attribute redeclaration).
use Rattle.std.specs.Prelude.{◌≡◌, ℕ, ◌<◌, List, length, Contains}
use Rattle.p21_spec_schema.specs.Declared.{HasNoCircle, HasSupertype, Renames, HasSelect}
use Rattle.p21_spec_schema.specs.PlaceType.{Redeclares}
use Rattle.p21_spec_schema.specs.Schema.{Schema, Redeclared, EntityNamed, TypeNamed}

-- no two entities have one name
abbrev pub HasDistinctEntities : Schema → Type 0
HasDistinctEntities s = (e f : ℕ) (name : List ℕ) → EntityNamed s e name → EntityNamed s f name → e ≡ f

-- no two types have one name
abbrev pub HasDistinctTypes : Schema → Type 0
HasDistinctTypes s = (t u : ℕ) (name : List ℕ) → TypeNamed s t name → TypeNamed s u name → t ≡ u

-- each supertype is an entity of the schema
abbrev pub AreEntities : Schema → Type 0
AreEntities s = (e f : ℕ) → HasSupertype s e f → f < length s.entities

-- each member of a ONEOF list is one, too
abbrev pub AreListedEntities : Schema → Type 0
AreListedEntities s = (listed : List ℕ) (e : ℕ) → Contains s.one_of_lists listed → Contains listed e → e < length s.entities

-- no entity redeclares a place twice as an explicit attribute
abbrev pub RedeclaresOnce : Schema → Type 0
RedeclaresOnce s = (e : ℕ) (r q : Redeclared) → Redeclares s e r → Redeclares s e q → r.place ≡ q.place → r ≡ q

-- names are told apart, numbers are those of the schema, nothing comes back, and no place is redeclared twice by an entity
pub record IsWellFormed (s : Schema) : Type 0 where
  pub supertypes_are : AreEntities s
  pub listed_are : AreListedEntities s
  pub supertypes_end : HasNoCircle (HasSupertype s)
  pub renaming_ends : HasNoCircle (Renames s)
  pub selects_end : HasNoCircle (HasSelect s)
  pub entities_distinct : HasDistinctEntities s
  pub types_distinct : HasDistinctTypes s
  pub redeclares_once : RedeclaresOnce s
