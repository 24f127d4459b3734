use Rattle.std.specs.Prelude.{◌≡◌, map, take}
use Rattle.p21_numbering.specs.Arrays.{other_end}
use Rattle.p21_numbering.proofs.adjacency.other_ends.Given as goal

abbrev pub invariant-loop-edge : goal.invariant-loop-edge
invariant-loop-edge l = l.uses.items ≡ map other_end (take l.edge-index l.edges)
