use Rattle.p21_stream_log.proofs.Breaking.{breaks-off}
use Rattle.p21_stream_log.proofs.log.Log.broken_front.Goals as goal

pub returns-in-Ok-clause-breaks_off : goal.returns-in-Ok-clause-breaks_off
returns-in-Ok-clause-breaks_off c = λ piece same. breaks-off c.whole_laws.ensures.begins_none c.args.self.now piece c.args.bytes.now
    c.in-Ok.front.now same c.in-Ok.ensures.front
