use Rattle.p21_stream_log.proofs.Taking.{take-gives}
use Rattle.p21_stream_log.proofs.log.Log.take.Goals as goal

pub returns-clause-gives : goal.returns-clause-gives
returns-clause-gives c = take-gives c.whole_laws.ensures.joined c.args.self.now c.close.new.self c.close.ensures
