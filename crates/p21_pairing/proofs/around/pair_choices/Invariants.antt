use Rattle.p21_pairing.specs.Pairs.{AreMore}
use Rattle.p21_pairing.proofs.around.pair_choices.Given as goal

abbrev pub invariant-loop-choice : goal.invariant-loop-choice
invariant-loop-choice l = AreMore l.kinds l.fn.pairs.partners.items l.fn.pairs.owners.items l.more.partners.items l.more.owners.items
