use Rattle.p21_stream_survey.proofs.Onward.{waits-on}
use Rattle.p21_stream_survey.proofs.survey.Survey.wait.Goals as goal

pub returns-in-Ok-end_at-clause-goes : goal.returns-in-Ok-end_at-clause-goes
returns-in-Ok-end_at-clause-goes c = waits-on c.args.self.now c.end_at.new.self c.args.unlisted c.in-Ok.bytes.items c.args.rest.now
    c.on.result c.requires.some c.in-Ok.ensures c.on.ensures.again c.on.ensures.count c.in-Ok-end_at.ensures
