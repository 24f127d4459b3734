use Rattle.std.proofs.Common.{◌∙◌}
use Rattle.p21_express_graph.specs.Prefixes.{lists_in}
use Rattle.p21_express_graph.specs.SchemaContents.{schema_of}
use Rattle.p21_express_graph.proofs.Closures.{entity-has_prefix, order-listed}
use Rattle.p21_schema.proofs.hierarchy.Hierarchy.order_of.Goals as goal

pub list-requires-clause-there : goal.list-requires-clause-there
list-requires-clause-there c = entity-has_prefix (schema_of c.self.inside.parts) c.args.self.now c.self.inside.tables.orders
    c.self.inside.tables.above.items c.self.inside.tables.indexes.items c.args.entity.0 c.self.view_is c.self.invariant.2.orders_are
    c.self.invariant.2.above_are c.self.invariant.2.indexes_are c.requires

pub returns : goal.returns
returns c = c.list.ensures ∙ order-listed (schema_of c.self.inside.parts) c.args.self.now (lists_in c.self.inside.tables.orders)
    c.args.entity.0 c.self.view_is c.self.invariant.2.orders_are c.requires
