use Rattle.std.proofs.Common.{ap, length, arith, refl}
use Rattle.p21_stream_store.proofs.TextLemmas.{has_room}
use Rattle.p21_stream_store.proofs.texts.Block.reserve.Goals as goal

pub returns-clause-room : goal.returns-clause-room
returns-clause-room c taken =
    let low = c.if-not-takes.ensures.low refl in
    let same = ap length c.in-Ok.ensures.bytes in
    has_room c.make_place.new.starts c.make_place.new.bytes c.args.size c.in-Ok.ensures.place (omega (arith, low, same, c.len-2.ensures))
    c.in-Ok.ensures.room
