-- Entities in a row, wherever they lie.
use Rattle.std.specs.Prelude.{List}
use Rattle.p21_express_graph.specs.declared.number.EntityId.{EntityId}
use Rattle.p21_schema.specs.declared.ids.Held.{Held}
use Rattle.p21_schema.specs.declared.ids.Held.TheVariants.{Kept, Own}

abbrev pub held_items : Held → List EntityId
held_items (Kept ids) = ids.now
held_items (Own ids) = ids.items
