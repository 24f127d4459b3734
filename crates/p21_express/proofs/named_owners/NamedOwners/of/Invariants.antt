use Rattle.p21_express.specs.NamedOwners.{OwnersUpTo}
use Rattle.p21_express.proofs.named_owners.NamedOwners.of.Given as goal

abbrev pub invariant-loop-number : goal.invariant-loop-number
invariant-loop-number l = OwnersUpTo l.hierarchy l.number l.named
