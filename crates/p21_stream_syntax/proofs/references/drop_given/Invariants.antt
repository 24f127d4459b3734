use Rattle.std.proofs.Common.{◌≡◌, length}
use Rattle.p21_stream_store.specs.StoredInstance.{instance_names}
use Rattle.p21_stream_syntax.proofs.Adding.{AreLooked}
use Rattle.p21_stream_syntax.specs.Waiting.{claims_in}
use Rattle.p21_stream_syntax.proofs.references.drop_given.Given as goal

abbrev pub invariant-loop-index : goal.invariant-loop-index
invariant-loop-index l = record {
  as_many : length l.waiting.items ≡ length l.fn.waiting.items;
  looked : AreLooked (instance_names l.names) (claims_in l.fn.waiting.items) l.waiting.items l.left l.index;
}
