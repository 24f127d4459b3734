use Rattle.std.proofs.Common.{drop, length}
use Rattle.std.proofs.lemmas.Bool.Decides.{Decides-eqb}
use Rattle.std.proofs.lemmas.Slice.Eq.{starts_is}
use Rattle.p21_stream_log.proofs.opening.begins_with.Goals as goal

pub returns : goal.returns
returns c =
    let both = starts_is Decides-eqb c.args.bytes.now c.args.front.now c.starts_with.result c.starts_with.ensures.value in
    (λ begins. (drop (length c.args.front.now) c.args.bytes.now, both.0 begins), λ found. both.1 found.0 found.1)
