use Rattle.std.proofs.Common.{take}
use Rattle.std.specs.List.{AllZip}
use Rattle.p21_express_graph.specs.Orders.{numbers}
use Rattle.p21_express_graph.specs.SchemaContents.{schema_of}
use Rattle.p21_express_graph.specs.Rising.{texts_of}
use Rattle.p21_spec_schema.specs.Schema.{EntityNamed}
use Rattle.p21_express_graph.proofs.ranking.entities_named.Given as goal

abbrev pub invariant-loop-name : goal.invariant-loop-name
invariant-loop-name l = AllZip (EntityNamed (schema_of l.parts)) (numbers l.entities.items) (texts_of (take l.name-index l.names))
