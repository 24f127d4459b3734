use Rattle.p21_stream_survey.proofs.Surveyed.{ends-by}
use Rattle.p21_stream_survey.proofs.ending.end_by.Goals as goal

pub returns-in-Ok-clause-ends : goal.returns-in-Ok-clause-ends
returns-in-Ok-clause-ends c = ends-by c.args.listing.now c.list.new.self c.args.fault c.args.at c.args.begins c.in-Ok.ensures.list
