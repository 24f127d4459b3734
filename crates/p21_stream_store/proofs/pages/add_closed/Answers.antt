use Rattle.std.proofs.Common.{List, ap, ◌∙◌, arith}
use Rattle.p21_stream_store.proofs.PageLemmas.{number_closed, rooms_more}
use Rattle.p21_stream_store.specs.Pages.{number_in, rooms}
use Rattle.p21_stream_store.proofs.pages.add_closed.Goals as goal

pub loop-preserved : goal.loop-preserved
loop-preserved g c = record {
  count = omega (arith, c.push_reserved.ensures.len, c.loop.invariant.count);
  same = λ none other. ap (λ (pages : List _). number_in none pages other) c.push_reserved.ensures.items
      ∙ number_closed none c.loop.pages.items c.new.result other c.new.ensures.items ∙ c.loop.invariant.same none other;
  room = ap rooms c.push_reserved.ensures.items ∙ (let more = rooms_more c.loop.pages.items c.new.result in let none =
      c.new.ensures.capacity in let before = c.loop.invariant.room in omega (arith, more, none, before));
  directory = c.push_reserved.ensures.capacity ∙ c.loop.invariant.directory;
}
