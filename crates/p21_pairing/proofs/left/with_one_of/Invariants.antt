use Rattle.std.specs.Prelude.{◌≡◌, None}
use Rattle.std.proofs.Common.{length}
use Rattle.p21_pairing.specs.Pairs.{partner_at}
use Rattle.p21_pairing.proofs.Leaving.{IsTried}
use Rattle.p21_pairing.proofs.left.with_one_of.Given as goal

abbrev pub invariant-loop-other : goal.invariant-loop-other
invariant-loop-other l = record {
  tried : IsTried l.kinds l.one l.fn.pairs.partners.items l.fn.pairs.owners.items l.fn.row.items l.more.partners.items l.more.owners.items
      l.row.items;
  free : partner_at l.more.partners.items l.one ≡ None;
}

abbrev pub decreases-loop-other : goal.decreases-loop-other
decreases-loop-other l = length l.row.items
