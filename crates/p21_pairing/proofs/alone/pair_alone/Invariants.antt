use Rattle.p21_pairing.proofs.Holding.{AreSoFar}
use Rattle.p21_pairing.proofs.alone.pair_alone.Given as goal

abbrev pub invariant-loop-key : goal.invariant-loop-key
invariant-loop-key l = AreSoFar l.kinds l.fn.pairs.partners.items l.fn.pairs.owners.items l.firsts.items l.seconds.items l.key
    l.more.partners.items l.more.owners.items
