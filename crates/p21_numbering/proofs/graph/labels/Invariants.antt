use Rattle.std.specs.Prelude.{◌≡◌, map, take}
use Rattle.p21_numbering.specs.Nodes.{Node, held_nodes}
use Rattle.p21_numbering.specs.Rows.{lent_rows}
use Rattle.p21_numbering.proofs.graph.labels.Given as goal

abbrev pub invariant-loop-node : goal.invariant-loop-node
invariant-loop-node l = lent_rows l.labels.items ≡ map (λ (n : Node). n.label) (held_nodes (take l.node-index l.nodes))
