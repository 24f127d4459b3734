-- The orders of all entities of a schema, in a table.
use Rattle.std.specs.Prelude.{◌≡◌, ℕ, ◌<◌, List, Some, length, map, slice_get}
use Rattle.std.specs.Prelude as std
use Rattle.std.specs.declared.alloc.Global.{Global}
use Rattle.p21_spec_schema.specs.Schema.{Schema}
use Rattle.p21_spec_schema.specs.Order.{order}
use Rattle.p21_express_graph.specs.declared.number.EntityId.{EntityId}

-- the numbers of entities
abbrev pub numbers : List EntityId → List ℕ
numbers entities = map (λ e. e.0) entities

-- the numbers in the lists of a table
abbrev pub number_lists : List (std.Vec EntityId Global) → List (List ℕ)
number_lists lists = map (λ x. numbers x.items) lists

-- the direct supertypes of each entity
abbrev pub supertype_lists : Schema → List (List ℕ)
supertype_lists s = map (λ x. x.supertypes) s.entities

-- the table has the order of each entity
pub record AreOrders (s : Schema) (lists : List (List ℕ)) : Type 0 where
  pub size : length lists ≡ length s.entities
  pub each : (e : ℕ) → e < length s.entities → slice_get lists e ≡ Some (order s e)
