use Rattle.p21_stream_survey.proofs.Numbers.{are-more}
use Rattle.p21_stream_survey.proofs.finishing.end_with.Goals as goal

pub returns-in-Ok-clause-of_file : goal.returns-in-Ok-clause-of_file
returns-in-Ok-clause-of_file c = λ of are. are-more c.args.listing.now.list.items c.end_by.new.listing.list.items _ c.in-Ok.ensures.list
    are of
