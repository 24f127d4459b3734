use Rattle.p21_stream_survey.proofs.AtEnd.{stretch-interrupted}
use Rattle.p21_stream_survey.proofs.finishing.interrupt_sought.Goals as goal

pub returns-in-Ok-clause-ends : goal.returns-in-Ok-clause-ends
returns-in-Ok-clause-ends c =
    stretch-interrupted c.args.listing.now c.end_interrupted.new.listing c.args.fault c.args.begins c.in-Ok.extent c.in-Ok.ensures.ends
