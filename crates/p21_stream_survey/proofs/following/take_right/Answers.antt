use Rattle.p21_stream_survey.proofs.Followed.{takes-counted}
use Rattle.p21_stream_survey.proofs.following.take_right.Goals as goal

pub returns-clause-takes : goal.returns-clause-takes
returns-clause-takes c = takes-counted c.args.log.now c.take.new.self c.args.listing.now c.count.new.self c.count.result
    c.take.ensures.gives c.count.ensures.list c.count.ensures.passed c.count.ensures.broken c.count.ensures.statement
