use Rattle.std.proofs.lemmas.List.Filters.{dedup_is}
use Rattle.p21_numbering.proofs.EdgeOrder.{edge_eq, sorted-members, sorted-ordered}
use Rattle.p21_numbering.proofs.edges.in_order.Goals as goal

pub returns-clause-ordered : goal.returns-clause-ordered
returns-clause-ordered c = sorted-ordered _ _ c.sort_unstable.ensures.sorted (dedup_is edge_eq _ _ c.dedup.ensures.filtered)

pub returns-clause-members : goal.returns-clause-members
returns-clause-members c e = sorted-members _ _ _ c.sort_unstable.ensures.permutation (dedup_is edge_eq _ _ c.dedup.ensures.filtered) e
