use Rattle.p21_stream_survey.proofs.AtEnd.{stretch-sought}
use Rattle.p21_stream_survey.proofs.finishing.end_sought.Goals as goal

pub returns-in-Ok-clause-ends : goal.returns-in-Ok-clause-ends
returns-in-Ok-clause-ends c = stretch-sought c.log_laws.ensures.sought c.args.listing.now c.end_by.new.listing c.args.fault c.args.begins
    c.in-Ok.extent c.in-Ok.ensures.ends
