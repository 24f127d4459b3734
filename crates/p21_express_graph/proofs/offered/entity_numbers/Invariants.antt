use Rattle.std.proofs.Common.{◌≡◌, map, take}
use Rattle.p21_express_graph.specs.Meaning.{member}
use Rattle.p21_express_graph.specs.Offered.{entity_numbers}
use Rattle.p21_express_graph.proofs.offered.entity_numbers.Given as goal

abbrev pub invariant-loop-member : goal.invariant-loop-member
invariant-loop-member l = l.found.items ≡ entity_numbers (map member (take l.member-index l.members))
