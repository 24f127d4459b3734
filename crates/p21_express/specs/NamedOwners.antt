-- For names of attributes the entities that declare an attribute of the name.
use Rattle.std.specs.Prelude.{◌≡◌, ◌<◌, ◌≤◌, ◌⊎◌, ℕ, List, [], Option, None, Some, length, slice_get, Contains}
use Rattle.p21_spec_schema.specs.Redeclaration.{IsOwnPlace}
use Rattle.p21_spec_schema.specs.Schema.{Schema, Place}
use Rattle.p21_express_graph.specs.Orders.{number_lists}
use Rattle.p21_express_graph.specs.SettledOrder.{nexts_of}
use Rattle.p21_express.specs.declared.named_owners.NamedOwners.{NamedOwners}

abbrev pub names_or_none : Option (List (List ℕ)) → List (List ℕ)
names_or_none None = []
names_or_none (Some names) = names

-- the names of the table
abbrev pub listed : NamedOwners → List (List ℕ)
listed named = names_or_none named.names

-- the entities at the name of a number
abbrev pub owners_of : NamedOwners → ℕ → List ℕ
owners_of named k = nexts_of (number_lists named.owners.items) k

-- no name is there twice, and there are as many lists, or more
pub record HaveLists (names : List (List ℕ)) (lists : ℕ) : Type 0 where
  pub size : length names ≤ lists
  pub distinct : (j k : ℕ) (name : List ℕ) → slice_get names j ≡ Some name → slice_get names k ≡ Some name → j ≡ k

abbrev pub IsTable : NamedOwners → Type 0
IsTable named = HaveLists (listed named) (length named.owners.items)

-- none of the names has an entity as yet
pub record AreBlank (named : NamedOwners) : Type 0 where
  pub table_is : IsTable named
  pub none : (k : ℕ) → owners_of named k ≡ []

-- the first so many entities are there at all names of attributes that they declare themselves
pub record OwnersUpTo (s : Schema) (count : ℕ) (named : NamedOwners) : Type 0 where
  pub table_is : IsTable named
  pub all : (k e : ℕ) (name : List ℕ) (place : Place) → slice_get (listed named) k ≡ Some name → e < count → IsOwnPlace s e name place
      → Contains (owners_of named k) e
  pub within : (k e : ℕ) → Contains (owners_of named k) e → e < length s.entities

abbrev pub AreOwnersOf : Schema → NamedOwners → Type 0
AreOwnersOf s named = OwnersUpTo s (length s.entities) named

-- these are entities, and all that declare an attribute of the name are among them
pub record HasOwners (s : Schema) (name : List ℕ) (owners : List ℕ) : Type 0 where
  pub all : (e : ℕ) (place : Place) → IsOwnPlace s e name place → Contains owners e
  pub within : (e : ℕ) → Contains owners e → e < length s.entities

-- an entity has been added at a name
pub record AddsOwner (e : ℕ) (name : List ℕ) (before after : NamedOwners) : Type 0 where
  pub names_are : listed after ≡ listed before
  pub size : length after.owners.items ≡ length before.owners.items
  pub here : (k : ℕ) → slice_get (listed before) k ≡ Some name → Contains (owners_of after k) e
  pub kept : (k f : ℕ) → Contains (owners_of before k) f → Contains (owners_of after k) f
  pub within : (k f : ℕ) → Contains (owners_of after k) f → Contains (owners_of before k) f ⊎ (f ≡ e)

-- an entity has been added at the names of the first so many attributes that it declares itself
pub record AddsOwners (s : Schema) (e count : ℕ) (before after : NamedOwners) : Type 0 where
  pub names_are : listed after ≡ listed before
  pub size : length after.owners.items ≡ length before.owners.items
  pub here : (k : ℕ) (name : List ℕ) (place : Place) → slice_get (listed before) k ≡ Some name → IsOwnPlace s e name place
      → place.index < count → Contains (owners_of after k) e
  pub kept : (k f : ℕ) → Contains (owners_of before k) f → Contains (owners_of after k) f
  pub within : (k f : ℕ) → Contains (owners_of after k) f → Contains (owners_of before k) f ⊎ (f ≡ e)
