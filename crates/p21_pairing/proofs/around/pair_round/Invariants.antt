use Rattle.p21_pairing.specs.Pairs.{AreMore}
use Rattle.p21_pairing.proofs.around.pair_round.Given as goal

abbrev pub invariant-loop-level : goal.invariant-loop-level
invariant-loop-level l = AreMore l.kinds l.fn.pairs.partners.items l.fn.pairs.owners.items l.more.partners.items l.more.owners.items
