use Rattle.std.proofs.Common.{map, take}
use Rattle.std.specs.List.{AllZip}
use Rattle.p21_express_outline.specs.Known.{names_of}
use Rattle.p21_express_outline.specs.Outline.{MemberIs}
use Rattle.p21_express_graph.specs.Meaning.{member}
use Rattle.p21_express_outline.proofs.lists.members_named.Given as goal

-- those so far are found
abbrev pub invariant-loop-name : goal.invariant-loop-name
invariant-loop-name l = AllZip (λ name m. MemberIs (names_of l.known) m name) (take l.name-index l.names) (map member l.found.items)
