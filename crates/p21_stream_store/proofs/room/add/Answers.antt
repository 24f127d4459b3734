use Rattle.std.proofs.Common.{arith}
use Rattle.p21_stream_store.proofs.room.add.Goals as goal

pub returns-clause-room : goal.returns-clause-room
returns-clause-room g c = λ m had fewest twice. omega (arith, c.push_reserved.ensures.capacity, c.make_room.ensures.room m had fewest twice)
