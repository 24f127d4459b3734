use Rattle.std.specs.Prelude.{◌≡◌, map, take}
use Rattle.p21_numbering.specs.Edges.{turned_edge}
use Rattle.p21_numbering.proofs.edges.turned.Given as goal

abbrev pub invariant-loop-edge : goal.invariant-loop-edge
invariant-loop-edge l = l.turned.items ≡ map turned_edge (take l.edge-index l.fn.edges)
