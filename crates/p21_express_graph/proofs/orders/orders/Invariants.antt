use Rattle.std.proofs.Common.{◌≡◌, take, length, []}
use Rattle.p21_express_graph.specs.Prefixes.{AreBelow, AreRunPrefixes, lists_in}
use Rattle.p21_express_graph.specs.Orders.{number_lists}
use Rattle.p21_express_graph.specs.SchemaContents.{schema_of}
use Rattle.p21_express_graph.proofs.OrderTables.{AreSoFar}
use Rattle.p21_express_graph.proofs.orders.orders.Given as goal

abbrev pub invariant-loop-number : goal.invariant-loop-number
invariant-loop-number l = AreSoFar (schema_of l.parts) (lists_in l.orders) (take l.number-index l.listed) × (l.gathered ≡ record { count = length (schema_of l.parts).entities; numbers = [] }) × AreRunPrefixes l.orders × AreBelow (length (schema_of l.parts).entities) (number_lists l.orders.runs.items)
