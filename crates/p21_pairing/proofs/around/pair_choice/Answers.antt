use Rattle.p21_pairing.proofs.MorePairs.{more-more}
use Rattle.p21_pairing.proofs.around.pair_choice.Goals as goal

pub returns : goal.returns
returns c =
    more-more c.args.kinds.now c.args.pairs.partners.items c.args.pairs.owners.items c.in_ok-some.some.partners.items
    c.in_ok-some.some.owners.items c.in_ok-more.more.partners.items c.in_ok-more.more.owners.items
    c.in_ok-some.ensures.more c.in_ok-more.ensures
