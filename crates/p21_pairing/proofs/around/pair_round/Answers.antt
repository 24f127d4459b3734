use Rattle.p21_pairing.proofs.MorePairs.{more-more}
use Rattle.p21_pairing.proofs.around.pair_round.Goals as goal

pub loop-level-preserved : goal.loop-level-preserved
loop-level-preserved c =
    more-more c.args.kinds.now c.args.pairs.partners.items c.args.pairs.owners.items c.loop-level.more.partners.items
    c.loop-level.more.owners.items c.in_ok-more.more.partners.items c.in_ok-more.more.owners.items
    c.loop-level.invariant c.in_ok-more.ensures.more

pub returns-then-is_found : goal.returns-then-is_found
returns-then-is_found c =
    more-more c.args.kinds.now c.args.pairs.partners.items c.args.pairs.owners.items c.loop-level.more.partners.items
    c.loop-level.more.owners.items c.in_ok-more.more.partners.items c.in_ok-more.more.owners.items
    c.loop-level.invariant c.in_ok-more.ensures.more
