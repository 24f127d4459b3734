use Rattle.std.specs.Prelude.{take}
use Rattle.p21_numbering.specs.Edges.{FindsNames}
use Rattle.p21_numbering.specs.Nodes.{held_nodes}
use Rattle.p21_numbering.proofs.edges.positions.Given as goal

abbrev pub invariant-loop-k : goal.invariant-loop-k
invariant-loop-k l = FindsNames l.positions (held_nodes (take l.k l.nodes))
