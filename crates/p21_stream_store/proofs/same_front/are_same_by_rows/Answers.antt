use Rattle.p21_stream_store.proofs.LaneLemmas.{both-same}
use Rattle.p21_stream_store.proofs.same_front.are_same_by_rows.Goals as goal

pub returns : goal.returns
returns c = λ same. both-same c.args.entities.now c.args.others.now c.same_front-same.result c.same_front-same.ensures.same
    (c.are_equal.ensures same)
