use Rattle.std.proofs.Common.{◌≡◌, drop, length, take}
use Rattle.p21_stream_kept.proofs.Dropping.{AreLooked}
use Rattle.p21_stream_kept.specs.Inside.{references_of, stored_in}
use Rattle.p21_stream_kept.specs.Judgements.{AreRight}
use Rattle.p21_stream_kept.proofs.served.drop_served.Given as goal

abbrev pub invariant-loop-index : goal.invariant-loop-index
invariant-loop-index l = record {
  as_many : length l.waiting.items ≡ length l.fn.waiting.items;
  looked : AreLooked l.schema (stored_in l.stored) (references_of (take l.from l.fn.waiting.items))
      (references_of (drop l.from l.fn.waiting.items)) l.waiting.items l.left l.index;
  right : AreRight l.schema l.stored.memberships l.judgements.all.items;
}
