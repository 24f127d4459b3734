use Rattle.p21_pairing.proofs.MorePairs.{more-more}
use Rattle.p21_pairing.proofs.around.pair_rounds.Goals as goal

pub loop-round-preserved : goal.loop-round-preserved
loop-round-preserved c =
    more-more c.args.kinds.now c.args.pairs.partners.items c.args.pairs.owners.items c.loop-round.more.partners.items
    c.loop-round.more.owners.items c.in_ok-more.more.partners.items c.in_ok-more.more.owners.items
    c.loop-round.invariant c.in_ok-more.ensures

pub returns-then-is_done : goal.returns-then-is_done
returns-then-is_done c =
    more-more c.args.kinds.now c.args.pairs.partners.items c.args.pairs.owners.items c.loop-round.more.partners.items
    c.loop-round.more.owners.items c.in_ok-more.more.partners.items c.in_ok-more.more.owners.items
    c.loop-round.invariant c.in_ok-more.ensures
