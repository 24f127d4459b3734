use Rattle.p21_pairing.proofs.MorePairs.{more-more}
use Rattle.p21_pairing.proofs.around.pair_choices.Goals as goal

pub loop-choice-preserved : goal.loop-choice-preserved
loop-choice-preserved c =
    more-more c.args.kinds.now c.args.pairs.partners.items c.args.pairs.owners.items c.loop-choice.more.partners.items
    c.loop-choice.more.owners.items c.in_ok-more.more.partners.items c.in_ok-more.more.owners.items
    c.loop-choice.invariant c.in_ok-more.ensures

pub returns-then-is_done : goal.returns-then-is_done
returns-then-is_done c =
    more-more c.args.kinds.now c.args.pairs.partners.items c.args.pairs.owners.items c.loop-choice.more.partners.items
    c.loop-choice.more.owners.items c.in_ok-more.more.partners.items c.in_ok-more.more.owners.items
    c.loop-choice.invariant c.in_ok-more.ensures
