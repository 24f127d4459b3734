-- What decides on the type at a place of a set of entities.
use Rattle.std.specs.Prelude.{◌≡◌, ◌⊎◌, ℕ, List, Option, Some, None, slice_get, Contains}
use Rattle.p21_spec_schema.specs.Schema.{Schema, Place, Entity, Redeclared as MeantRedeclared}
use Rattle.p21_spec_schema.specs.PlaceType.{two_redeclarations, TypeAt, IsDerivedIn, IsRedeclared, Decides}
use Rattle.p21_spec_schema.specs.Supertype.{IsA}
use Rattle.p21_express_graph.specs.declared.number.EntityId.{EntityId}
use Rattle.p21_express_graph.specs.Lookups.{DerivesPlace, RedeclaresAt}
use Rattle.p21_schema.specs.declared.place_types.Decision.{Decision}
use Rattle.p21_schema.specs.declared.place_types.Decision.TheVariants.{Declared, Derived, Redeclared, Two}

-- the entity redeclares so, at this place in its list
abbrev pub IsRedeclaredAs : Schema → ℕ → ℕ → MeantRedeclared → Type 0
IsRedeclaredAs s e at r = (x : Entity) × (slice_get s.entities e ≡ Some x) × (slice_get x.redeclared at ≡ Some r)

-- the decision is that of the set
abbrev pub IsDecision : Schema → List ℕ → Place → Decision → Type 0
IsDecision s entities place Declared = ¬ IsDerivedIn s entities place × ¬ IsRedeclared s entities place
IsDecision s entities place Derived = IsDerivedIn s entities place
IsDecision s entities place (Redeclared e at) = ¬ IsDerivedIn s entities place
    × ((r : MeantRedeclared) × IsRedeclaredAs s e.0 at r × Decides s entities place r)
IsDecision s entities place Two = TypeAt s entities place two_redeclarations

-- the entity redeclares the place as an explicit attribute
abbrev pub IsRedeclarer : Schema → Place → ℕ → Type 0
IsRedeclarer s place e = (r : MeantRedeclared) × RedeclaresAt s e place r

-- the entity counts: each does, or those that are the given one or a supertype of it
abbrev pub Counts : Schema → Option EntityId → ℕ → Type 0
Counts s None e = Unit {0}
Counts s (Some own) e = IsA s own.0 e

-- the entity counts, and redeclares the place as a derived attribute
abbrev pub IsDeriving : Schema → Option EntityId → Place → ℕ → Type 0
IsDeriving s own place e = DerivesPlace s e place × Counts s own e

-- and as an explicit one
abbrev pub IsRedeclaring : Schema → Option EntityId → Place → ℕ → Type 0
IsRedeclaring s own place e = IsRedeclarer s place e × Counts s own e

-- the entity is a subtype of all of these that count and redeclare the place
abbrev pub IsBelowAll : Schema → List ℕ → Option EntityId → Place → ℕ → Type 0
IsBelowAll s entities own place e = (f : ℕ) → Contains entities f → IsRedeclaring s own place f → IsA s e f

-- those of the set that redeclare the place are those of the entities that count and do so
pub record AreMembers (s : Schema) (entities : List ℕ) (own : Option EntityId) (place : Place) (set : List ℕ) : Type 0 where
  pub counting : (e : ℕ) → Contains set e → IsRedeclarer s place e ⊎ DerivesPlace s e place → Contains entities e × Counts s own e
  pub within : (e : ℕ) → Contains entities e → Counts s own e → Contains set e

-- the entity is the last one or a subtype of it, if there is a last one
abbrev pub IsBelowLast : Schema → ℕ → Option EntityId → Type 0
IsBelowLast s e None = Unit {0}
IsBelowLast s e (Some last) = IsA s e last.0

-- the entity is one of these that counts and redeclares the place, and no other one that does is a subtype of all that do
abbrev pub IsLowest : Schema → List ℕ → Option EntityId → Place → ℕ → Type 0
IsLowest s entities own place e = Contains entities e × IsRedeclaring s own place e
    × ((f : ℕ) → Contains entities f → IsRedeclaring s own place f → IsBelowAll s entities own place f → f ≡ e)
