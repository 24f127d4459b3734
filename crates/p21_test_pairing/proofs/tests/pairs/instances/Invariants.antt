use Rattle.std.specs.List.{AllByRecursion as Each}
use Rattle.p21_numbering.specs.Instances.{Instance, file_instances}
use Rattle.p21_numbering.specs.NodesOf.{HasKnownParts}
use Rattle.p21_test_pairing.proofs.tests.pairs.instances.Given as goal

abbrev pub invariant-loop-one : goal.invariant-loop-one
invariant-loop-one l = Each (λ (i : Instance). HasKnownParts l.schema i.typed) (file_instances l.all.items)
