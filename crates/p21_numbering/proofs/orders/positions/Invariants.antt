use Rattle.std.specs.Prelude.{map, take}
use Rattle.p21_numbering.specs.Edges.{FindsNames}
use Rattle.p21_numbering.specs.Ordering.{named_node}
use Rattle.p21_numbering.specs.Ranked.{held_instances}
use Rattle.p21_numbering.proofs.orders.positions.Given as goal

abbrev pub invariant-loop-k : goal.invariant-loop-k
invariant-loop-k l = FindsNames l.positions (map named_node (take l.k (held_instances l.instances)))
