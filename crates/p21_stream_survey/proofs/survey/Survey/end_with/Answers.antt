use Rattle.p21_stream_survey.proofs.Ends.{so-ends}
use Rattle.p21_stream_survey.proofs.survey.Survey.end_with.Goals as goal

pub returns-in-Ok : goal.returns-in-Ok
returns-in-Ok c = so-ends c.args.self.now c.end_by.new.listing c.args.refusal c.in-Ok.extent c.in-Ok.ensures.list c.in-Ok.ensures.ends
    c.in-Ok.ensures.extent
