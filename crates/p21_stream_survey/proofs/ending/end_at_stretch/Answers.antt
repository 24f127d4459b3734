use Rattle.p21_stream_survey.proofs.Surveyed.{ends-at_stretch}
use Rattle.p21_stream_survey.proofs.ending.end_at_stretch.Goals as goal

pub returns-in-Ok-clause-ends : goal.returns-in-Ok-clause-ends
returns-in-Ok-clause-ends c = ends-at_stretch c.args.listing.now c.list.new.self c.args.fault c.args.at c.args.begins c.in-Ok.ensures.list
