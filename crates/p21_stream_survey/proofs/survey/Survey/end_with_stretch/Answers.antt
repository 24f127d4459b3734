use Rattle.p21_stream_survey.proofs.Ends.{stretch-ends}
use Rattle.p21_stream_survey.proofs.survey.Survey.end_with_stretch.Goals as goal

pub returns-in-Ok : goal.returns-in-Ok
returns-in-Ok c = stretch-ends c.args.self.now c.end_at_stretch.new.listing c.args.refusal c.in-Ok.extent c.in-Ok.ensures.list
    c.in-Ok.ensures.ends
