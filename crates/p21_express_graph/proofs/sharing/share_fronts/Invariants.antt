use Rattle.std.proofs.Common.{◌≡◌, length}
use Rattle.p21_express_graph.specs.Above.{AreAbove}
use Rattle.p21_express_graph.specs.SchemaContents.{schema_of}
use Rattle.p21_express_graph.proofs.sharing.share_fronts.Given as goal

-- each entity has what is above it
abbrev pub invariant-loop-number : goal.invariant-loop-number
invariant-loop-number l = AreAbove l.orders l.all.items × (length l.indexed.items ≡ length l.orders.runs.items) × (length l.places.items ≡ length (schema_of l.parts).entities)
