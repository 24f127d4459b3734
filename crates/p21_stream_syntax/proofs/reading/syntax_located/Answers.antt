use Rattle.p21_stream_syntax.proofs.Feeding.{end-found, end-refused, nothing-read}
use Rattle.p21_stream_syntax.proofs.reading.syntax_located.Goals as goal

pub read_all-requires-clause-new : goal.read_all-requires-clause-new
read_all-requires-clause-new g c = nothing-read c.args.limits (g.R.Read.remaining c.args.reader.now.inner) c.new-walk.result
    c.new-walk.ensures.live c.new-walk.ensures.limits c.new-walk.ensures.kept

pub returns-in-Ok-finish-clause-ok : goal.returns-in-Ok-finish-clause-ok
returns-in-Ok-finish-clause-ok g c = end-found c.args.limits _ _ c.read_all.new.walk c.in-Ok-finish.found c.in-Ok-finish.ensures.gives
    c.in-Ok.ensures.ok

pub returns-in-Err-finish-clause-err : goal.returns-in-Err-finish-clause-err
returns-in-Err-finish-clause-err g c = end-refused c.args.limits _ _ c.read_all.new.walk c.in-Err-finish.refusal
    c.in-Err-finish.ensures.kind c.in-Err-finish.ensures.gives c.in-Ok.ensures.ok
