use Rattle.std.proofs.Common.{List, slice_index_or, ap, ◌∙◌, arith}
use Rattle.p21_stream_store.proofs.RoomLemmas.{default_behind}
use Rattle.p21_stream_store.proofs.room.fill_up.Goals as goal

pub loop-preserved : goal.loop-preserved
loop-preserved g c = record {
  count = omega (arith, c.push_reserved.ensures.len, c.loop.invariant.count);
  same = λ other. ap (λ (l : List _). slice_index_or l other c.args.fill) c.push_reserved.ensures.items
      ∙ default_behind c.loop.list.items c.args.fill other ∙ c.loop.invariant.same other;
  room = c.push_reserved.ensures.capacity ∙ c.loop.invariant.room;
}
