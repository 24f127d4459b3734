use Rattle.p21_stream_io.proofs.TransferLemmas.{all_in_two}
use Rattle.p21_stream_io.proofs.waiting.Waiting.put.Goals as goal

pub returns-clause-ok : goal.returns-clause-ok
returns-clause-ok g c = all_in_two _ _ _ _ _ _ c.in-Ok.ensures.ok.0 c.in-Ok-write_whole.ensures.ok c.in-Ok.ensures.ok.1
