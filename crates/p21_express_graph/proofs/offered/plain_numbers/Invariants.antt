use Rattle.std.proofs.Common.{◌≡◌, map, take}
use Rattle.p21_express_graph.specs.Meaning.{member}
use Rattle.p21_express_graph.specs.Offered.{plain_numbers}
use Rattle.p21_express_graph.specs.SchemaContents.{schema_of}
use Rattle.p21_express_graph.proofs.offered.plain_numbers.Given as goal

abbrev pub invariant-loop-member : goal.invariant-loop-member
invariant-loop-member l = l.found.items ≡ plain_numbers (schema_of l.parts) (map member (take l.member-index l.members))
