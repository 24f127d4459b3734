use Rattle.p21_stream_output.proofs.Putting.{then_all, then_part}
use Rattle.p21_stream_output.proofs.output.put_line.Goals as goal

pub returns-in_default-put-clause-err : goal.returns-in_default-put-clause-err
returns-in_default-put-clause-err g c = then_part _ _ _ _ _ _ _ c.in-Ok.ensures.ok c.in_default-put.ensures.err

pub returns-clause-ok : goal.returns-clause-ok
returns-clause-ok g c = then_all _ _ _ _ _ _ _ _ c.in-Ok.ensures.ok c.in-Ok-put.ensures.ok
