use Rattle.p21_stream_store.proofs.SetNumbers.{same-listed}
use Rattle.p21_stream_store.proofs.same_front.are_equal.Goals as goal

pub returns : goal.returns
returns c = same-listed c.args.entities.now c.args.others.now c.eq.result c.eq.ensures
