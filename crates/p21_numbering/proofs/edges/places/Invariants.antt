use Rattle.std.specs.Prelude.{◌≡◌, take}
use Rattle.p21_numbering.specs.Edges.{places_of}
use Rattle.p21_numbering.specs.Nodes.{held_nodes}
use Rattle.p21_numbering.specs.Rows.{lent_rows}
use Rattle.p21_numbering.proofs.edges.places.Given as goal

abbrev pub invariant-loop-node : goal.invariant-loop-node
invariant-loop-node l = lent_rows l.places.items ≡ places_of (held_nodes (take l.node-index l.nodes))
