use Rattle.p21_stream_survey.proofs.Behind.{right-follows}
use Rattle.p21_stream_survey.proofs.survey.Survey.follow_right.Goals as goal

pub returns-in-Ok : goal.returns-in-Ok
returns-in-Ok c = right-follows c.args.self.now c.take_right.new.log c.take_right.new.listing c.new.result.items c.new.ensures.items
    c.in-Ok.ensures.takes c.take_right.ensures.closes.buffer
