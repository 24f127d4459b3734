use Rattle.std.specs.List.{flat_map, range_with_len}
use Rattle.std.specs.Prelude.{◌≡◌}
use Rattle.p21_numbering.specs.Edges.{edges_from}
use Rattle.p21_numbering.specs.Nodes.{held_nodes}
use Rattle.p21_numbering.specs.Rows.{lent_rows}
use Rattle.p21_numbering.proofs.edges.all_edges.Given as goal

abbrev pub invariant-loop-k : goal.invariant-loop-k
invariant-loop-k l = l.edges.items ≡ flat_map (edges_from l.positions (lent_rows l.places) (held_nodes l.nodes)) (range_with_len 0 l.k)
