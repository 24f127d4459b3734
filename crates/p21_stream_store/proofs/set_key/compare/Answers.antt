use Rattle.std.proofs.Common.{◌∙◌}
use Rattle.p21_stream_store.proofs.LaneLemmas.{order-of-sizes}
use Rattle.p21_stream_store.proofs.set_key.compare.Goals as goal

pub returns : goal.returns
returns c =
    c.compare_in_turn.ensures
    ∙ order-of-sizes c.args.entities.now c.args.others.now c.cmp-sizes.result c.is_ne.result c.same_front-same.result c.cmp-sizes.ensures
    c.is_ne.ensures c.if-is_ne.false c.same_front-same.ensures.same
