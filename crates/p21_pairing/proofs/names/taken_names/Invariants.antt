use Rattle.p21_numbering.specs.Instances.{file_instances, names_of}
use Rattle.p21_pairing.proofs.NewNames.{HasBelow}
use Rattle.p21_pairing.proofs.names.taken_names.Given as goal

abbrev pub invariant-loop-k : goal.invariant-loop-k
invariant-loop-k l = HasBelow l.taken (names_of (file_instances l.instances)) l.k
