use Rattle.p21_numbering.specs.Rows.{held_rows}
use Rattle.p21_pairing.proofs.Leaving.{AreLeft}
use Rattle.p21_pairing.proofs.left.pair_left.Given as goal

abbrev pub invariant-loop-one : goal.invariant-loop-one
invariant-loop-one l = AreLeft l.keys l.kinds l.fn.pairs.partners.items l.fn.pairs.owners.items l.one l.more.partners.items
    l.more.owners.items (held_rows l.left.items)
