use Rattle.p21_express_graph.specs.Orders.{numbers}
use Rattle.p21_express_graph.proofs.ByRank.{AreRankedUpTo}
use Rattle.p21_express_graph.proofs.ranking.ranks_of.Given as goal

-- the ranks of the entities so far
abbrev pub invariant-loop-rank : goal.invariant-loop-rank
invariant-loop-rank l = AreRankedUpTo (numbers l.rising) l.ranks.items l.count l.rank
