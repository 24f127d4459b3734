use Rattle.std.specs.Prelude.{ℕ, List, Option}
use Rattle.p21_pairing.proofs.MorePairs.{more-more}
use Rattle.p21_pairing.proofs.around.pair_near.Goals as goal

pub returns : goal.returns
returns c =
    let kinds : List ℕ = c.args.kinds.now in
    let ps : List (Option ℕ) = c.args.pairs.partners.items in
    let os : List (Option ℕ) = c.args.pairs.owners.items in
    more-more kinds ps os c.in_ok-alike.alike.partners.items c.in_ok-alike.alike.owners.items c.in_ok-left.left.partners.items
    c.in_ok-left.left.owners.items
    (more-more kinds ps os c.in_ok-chosen.chosen.partners.items c.in_ok-chosen.chosen.owners.items c.in_ok-alike.alike.partners.items
    c.in_ok-alike.alike.owners.items
    (more-more kinds ps os c.in_ok-near.near.partners.items c.in_ok-near.near.owners.items c.in_ok-chosen.chosen.partners.items
    c.in_ok-chosen.chosen.owners.items
    (more-more kinds ps os c.in_ok-alone.alone.partners.items c.in_ok-alone.alone.owners.items c.in_ok-near.near.partners.items
    c.in_ok-near.near.owners.items
    (more-more kinds ps os c.in_ok-whole.whole.partners.items c.in_ok-whole.whole.owners.items c.in_ok-alone.alone.partners.items
    c.in_ok-alone.alone.owners.items
    c.in_ok-whole.ensures.more c.in_ok-alone.ensures.more) c.in_ok-near.ensures) c.in_ok-chosen.ensures) c.in_ok-alike.ensures)
    c.in_ok-left.ensures.more
