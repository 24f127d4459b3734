use Rattle.std.specs.Prelude.{◌+◌}
use Rattle.p21_numbering.specs.Instances.{file_instances, names_of}
use Rattle.p21_numbering.proofs.GivenNames.{GetBelow}
use Rattle.p21_pairing.proofs.population.positions.Given as goal

abbrev pub invariant-loop-k : goal.invariant-loop-k
invariant-loop-k l = GetBelow l.positions (names_of (file_instances l.instances)) (λ j. l.start + j) l.k
