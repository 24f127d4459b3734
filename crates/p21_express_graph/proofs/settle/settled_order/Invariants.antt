use Rattle.std.proofs.Common.{reverse}
use Rattle.p21_express_graph.specs.SettledOrder.{lists_of}
use Rattle.p21_express_graph.specs.Walking.{WalksAlong, left}
use Rattle.p21_express_graph.proofs.settle.settled_order.Given as goal

abbrev pub invariant-loop-walk : goal.invariant-loop-walk
invariant-loop-walk l = WalksAlong (lists_of l.nexts) l.walk (reverse l.walk.way.items)

abbrev pub decreases-loop-walk : goal.decreases-loop-walk
decreases-loop-walk l = left (lists_of l.nexts) l.walk (reverse l.walk.way.items)
