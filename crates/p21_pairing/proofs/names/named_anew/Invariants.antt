use Rattle.p21_numbering.specs.Arrays.{rank_at}
use Rattle.p21_numbering.specs.Instances.{file_instances, names_of}
use Rattle.p21_numbering.proofs.GivenNames.{GetBelow}
use Rattle.p21_pairing.proofs.names.named_anew.Given as goal

abbrev pub invariant-loop-k : goal.invariant-loop-k
invariant-loop-k l = GetBelow l.names (names_of (file_instances l.instances)) (rank_at l.news) l.k
