use Rattle.p21_numbering.specs.Arrays.{rank_at}
use Rattle.p21_numbering.specs.Nodes.{held_nodes, names}
use Rattle.p21_numbering.proofs.GivenNames.{GetBelow}
use Rattle.p21_numbering.proofs.standings.ranks_by_name.Given as goal

abbrev pub invariant-loop-k : goal.invariant-loop-k
invariant-loop-k l = GetBelow l.by_name (names (held_nodes l.nodes)) (rank_at l.ranks) l.k
