-- The sets that entities make with their supertypes, rising by name, in a table.
use Rattle.std.specs.Prelude.{◌≡◌, ◌<◌, ◌≤◌, ℕ, List, Option, Some, None, length, slice_get}
use Rattle.std.specs.Prelude as std
use Rattle.std.specs.declared.alloc.Global.{Global}
use Rattle.p21_spec_schema.specs.Order.{order}
use Rattle.p21_spec_schema.specs.Schema.{Schema}
use Rattle.p21_express_graph.specs.declared.number.EntityId.{EntityId}
use Rattle.p21_express_graph.specs.Lookups.{AreEntities}
use Rattle.p21_express_graph.specs.Orders.{numbers}
use Rattle.p21_express_graph.specs.Ranking.{IsRanking}
use Rattle.p21_express_graph.specs.Rising.{IsOwnRising}
use Rattle.p21_express_graph.specs.declared.ranking.Ranking.{Ranking}

-- the ranking is that of the schema
abbrev pub RanksEntities : Schema → Ranking → Type 0
RanksEntities s ranking = IsRanking s (numbers ranking.rising.items) ranking.ranks.items

-- the ranking is that of a schema with these entities
abbrev pub AreRanked : Ranking → List ℕ → Type 0
AreRanked ranking entities = (s : Schema) × RanksEntities s ranking × AreEntities s entities

-- entities that rise by name, where they are kept
abbrev pub RisingSet : Type 0
RisingSet = Option (std.Vec EntityId Global)

-- the entity and its supertypes are kept, rising by name, where they are 64 at most, and only there
abbrev pub IsRisingSet : Schema → ℕ → RisingSet → Type 0
IsRisingSet s e None = 64 < length (order s e)
IsRisingSet s e (Some entities) = (length (order s e) ≤ 64) × IsOwnRising s e (numbers entities.items)

-- each is that of the entity of its number
abbrev pub EachRising : Schema → List RisingSet → Type 0
EachRising s sets = (e : ℕ) (set : RisingSet) → slice_get sets e ≡ Some set → IsRisingSet s e set

-- the table is complete
pub record AreRisingSets (s : Schema) (sets : List RisingSet) : Type 0 where
  pub size : length sets ≡ length s.entities
  pub each : EachRising s sets
