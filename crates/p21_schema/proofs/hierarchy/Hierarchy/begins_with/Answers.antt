use Rattle.std.proofs.lemmas.Bool.{leb-true}
use Rattle.p21_express_graph.specs.SchemaContents.{schema_of}
use Rattle.p21_schema.proofs.Fronts.{front-below}
use Rattle.p21_schema.proofs.hierarchy.Hierarchy.begins_with.Goals as goal

pub returns-then-front-whole : goal.returns-then-front-whole
returns-then-front-whole c shorter =
    front-below c.args.self.now c.holds_together.ensures (schema_of c.self.inside.parts) c.self.inside.tables.orders c.args.entity.0
    c.args.other.0 c.prefix_of-whole.result c.prefix_of-front.result c.self.view_is c.self.invariant.2.orders_are c.requires.entity
    c.requires.other c.prefix_of-whole.ensures c.prefix_of-front.ensures c.if-front-whole.true
    (leb-true c.prefix_of-front.result.size c.prefix_of-whole.result.size shorter)
