use Rattle.std.proofs.Common.{◌+◌, vec_capacity, arith}
use Rattle.p21_stream_store.proofs.PageLemmas.{rooms_set, rooms_stay}
use Rattle.p21_stream_store.proofs.pages.open.Goals as goal

pub returns-clause-room : goal.returns-clause-room
returns-clause-room g c =
    let rooms = rooms_set c.args.pages.now.items c.args.number c.index_mut.result.now c.reach.new.list c.requires
    c.index_mut.ensures.value in
    let more = c.reach.ensures.room (vec_capacity c.index_mut.result.now + 4096) (omega arith) (omega arith) in
    omega (arith, rooms, more)

pub returns-clause-err : goal.returns-clause-err
returns-clause-err g c = rooms_stay _ c.args.pages.now.items c.args.number c.index_mut.result.now c.reach.new.list c.requires
    c.index_mut.ensures.value c.reach.ensures.no_room
