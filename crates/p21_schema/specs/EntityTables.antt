-- The tables of the entities of a schema: what follows from supertypes and ONEOF lists.
use Rattle.p21_spec_schema.specs.Schema.{Schema}
use Rattle.p21_express_graph.specs.Above.{AreAbove}
use Rattle.p21_express_graph.specs.Indexes.{AreIndexes}
use Rattle.p21_express_graph.specs.Orders.{AreOrders, number_lists}
use Rattle.p21_express_graph.specs.Prefixes.{AreRunPrefixes, lists_in}
use Rattle.p21_express_graph.specs.SettledOrder.{lists_of}
use Rattle.p21_schema.specs.OneOf.{AreListedIn}
use Rattle.p21_schema.specs.declared.hierarchy.EntityTables.{EntityTables}

-- each table is that of the schema
pub record AreEntityTables (s : Schema) (tables : EntityTables) : Type 0 where
  pub prefixes_are : AreRunPrefixes tables.orders
  pub orders_are : AreOrders s (lists_in tables.orders)
  pub above_are : AreAbove tables.orders tables.above.items
  pub indexes_are : AreIndexes (number_lists tables.orders.runs.items) tables.above.items tables.indexes.items
  pub listed_are : AreListedIn s (lists_of tables.listed_in.items)
