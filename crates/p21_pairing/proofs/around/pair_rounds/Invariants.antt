use Rattle.p21_pairing.specs.Pairs.{AreMore}
use Rattle.p21_pairing.proofs.around.pair_rounds.Given as goal

abbrev pub invariant-loop-round : goal.invariant-loop-round
invariant-loop-round l = AreMore l.kinds l.fn.pairs.partners.items l.fn.pairs.owners.items l.more.partners.items l.more.owners.items
