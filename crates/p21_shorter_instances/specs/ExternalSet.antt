-- Sets of entities that instances of external mapping may have, with their simple records in the order of the canonical file.
use Rattle.std.specs.Prelude.{◌≡◌, ◌≢◌, ℕ, List, Some, map, nat_eq, slice_get}
use Rattle.std.specs.Arc.{arc_slice_items}
use Rattle.std.specs.declared.alloc.Global.{Global}
use Rattle.std.specs.declared.sync.ArcSlice.{ArcSlice}
use Rattle.p21_express_graph.specs.Orders.{numbers}
use Rattle.p21_express_graph.specs.declared.number.EntityId.{EntityId}
use Rattle.std.specs.List.{AllByRecursion as Each, IsDistinct}
use Rattle.p21_mapping.specs.Shape.{HasNoAbstractLeaf, IsClosed, PassesSet}
use Rattle.p21_spec_schema.specs.Schema.{AreRisingByName, Schema}
use Rattle.p21_spec_schema.specs.Supertype.{IsLeaf}

-- the set has leaves that differ
abbrev pub HasSeveralLeaves : Schema → List ℕ → Type 0
HasSeveralLeaves s entities = (e f : ℕ) × (e ≢ f) × IsLeaf s entities e × IsLeaf s entities f

-- the entities are a set with several leaves that an instance may have, rising by name
pub record IsExternalSet (s : Schema) (entities : List ℕ) : Type 0 where
  pub distinct : IsDistinct nat_eq entities
  pub closed : IsClosed s entities
  pub rising : AreRisingByName s entities
  pub several_leaves : HasSeveralLeaves s entities
  pub no_abstract_leaf : HasNoAbstractLeaf s entities
  pub passes : PassesSet s entities

-- the entities of sets
abbrev pub sets_of : List (ArcSlice EntityId Global) → List (List ℕ)
sets_of sets = map (λ (set : ArcSlice EntityId Global). numbers (arc_slice_items set)) sets

-- the set has this number
abbrev pub IsNumberedSet : List (List ℕ) → ℕ → List ℕ → Type 0
IsNumberedSet sets at entities = slice_get sets at ≡ Some entities

-- each of the sets is so
abbrev pub AreExternalSets : Schema → List (List ℕ) → Type 0
AreExternalSets s sets = Each (IsExternalSet s) sets
