use Rattle.std.proofs.Common.{arith}
use Rattle.p21_stream_survey.proofs.Onward.{sought-ends}
use Rattle.p21_stream_survey.proofs.survey.Survey.seek_on.Goals as goal

pub returns-then-start-stretch-clause-goes : goal.returns-then-start-stretch-clause-goes
returns-then-start-stretch-clause-goes c =
    let long = c.if-start-stretch.true in
    sought-ends c.args.self.now c.end_behind.new.self c.args.seeker c.args.stretch c.args.count c.too_long.result c.end_behind.result
    c.too_long.ensures (omega (arith, long, c.start.ensures, c.file_source.ensures)) c.end_behind.ensures.ends
