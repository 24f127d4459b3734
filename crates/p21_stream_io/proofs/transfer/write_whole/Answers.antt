use Rattle.std.proofs.Common.{◌∙◌}
use Rattle.p21_stream_io.proofs.TransferLemmas.{rest_after, took_some, written_more}
use Rattle.p21_stream_io.proofs.transfer.write_whole.Goals as goal

pub loop-rest-preserved : goal.loop-rest-preserved
loop-rest-preserved g c = (
  written_more _ _ _ _ _ _ _ c.loop-rest.invariant.0 c.in-Ok.ensures.bytes (rest_after c.in-Ok.count c.loop-rest.rest.now),
  c.in-Ok.ensures.failures ∙ took_some _ c.in-Ok.count c.loop-rest.rest.now c.if-count-eq0.false ∙ c.loop-rest.invariant.1,
)
