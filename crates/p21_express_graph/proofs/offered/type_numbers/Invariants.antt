use Rattle.std.proofs.Common.{◌≡◌, map, take}
use Rattle.p21_express_graph.specs.Meaning.{member}
use Rattle.p21_express_graph.specs.Offered.{type_numbers}
use Rattle.p21_express_graph.proofs.offered.type_numbers.Given as goal

abbrev pub invariant-loop-member : goal.invariant-loop-member
invariant-loop-member l = l.found.items ≡ type_numbers (map member (take l.member-index l.members))
