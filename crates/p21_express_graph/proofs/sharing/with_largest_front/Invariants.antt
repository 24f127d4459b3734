use Rattle.std.proofs.Common.{◌<◌, length}
use Rattle.p21_express_graph.proofs.sharing.with_largest_front.Given as goal

-- it is the place of one of them
abbrev pub invariant-loop-at : goal.invariant-loop-at
invariant-loop-at l = l.largest < length l.entities
