use Rattle.std.proofs.Common.{◌≡◌, length, map, take, drop}
use Rattle.p21_stream_store.specs.StoredInstance.{text_at}
use Rattle.p21_stream_store.proofs.instances.Instances.lines.Given as goal

abbrev pub invariant-loop-index : goal.invariant-loop-index
invariant-loop-index l = record {
  texts : l.lines ≡ map (text_at l.self) (take l.index (drop l.from l.positions));
  many : length l.lines ≡ l.index;
}
