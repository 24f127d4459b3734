use Rattle.p21_stream_survey.proofs.LastBytes.{fed-again, last-next}
use Rattle.p21_stream_survey.proofs.survey.Survey.feed_last.Goals as goal

pub feed_again-requires : goal.feed_again-requires
feed_again-requires c = last-next c.args.self.now c.args.bytes.items c.requires

pub returns-in-Ok : goal.returns-in-Ok
returns-in-Ok c = fed-again c.args.self.now c.feed_again.new.self c.args.bytes.items c.in-Ok.ensures
