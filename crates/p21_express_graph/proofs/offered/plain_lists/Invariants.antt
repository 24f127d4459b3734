use Rattle.std.proofs.Common.{◌≡◌, map, take}
use Rattle.p21_express_graph.specs.Meaning.{kind}
use Rattle.p21_express_graph.specs.Offered.{members_of, plain_numbers}
use Rattle.p21_express_graph.specs.SchemaContents.{schema_of}
use Rattle.p21_express_graph.specs.SettledOrder.{lists_of}
use Rattle.p21_express_graph.proofs.offered.plain_lists.Given as goal

abbrev pub invariant-loop-defined : goal.invariant-loop-defined
invariant-loop-defined l = lists_of l.lists.items ≡ map (λ x. plain_numbers (schema_of l.parts) (members_of (kind x.kind))) (take l.defined-index l.parts.types.items)
