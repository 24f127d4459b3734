use Rattle.std.proofs.Common.{ap, length}
use Rattle.p21_stream_survey.proofs.Feeding.{begins-course}
use Rattle.p21_stream_survey.proofs.Readings.{nothing-sound, reads-nothing}
use Rattle.p21_stream_survey.specs.declared.stage.Stage.TheVariants.{Reading}
use Rattle.p21_stream_survey.proofs.survey.Survey.by.Goals as goal

pub returns-clause-course : goal.returns-clause-course
returns-clause-course c = λ known few.
    begins-course known (record {
      alloc = c.args.alloc;
      limits = c.args.limits;
      most = c.at_least_one.result;
      log = c.new.result;
      keeper = c.args.keeper;
      listing = c.new-2.result;
      stage = Reading;
    })
    (λ s k ahead begins. c.new.ensures.logs s k ahead begins) c.new.ensures.begins
    (reads-nothing c.args.limits c.args.keeper c.new-2.result c.requires.keeps c.new-2.ensures.list c.new-2.ensures.passed
    c.new-2.ensures.statement c.new-2.ensures.whole)
    (ap length c.new-2.ensures.list) c.at_least_one.ensures.some c.most_bytes-counted.ensures.counted
    (nothing-sound c.args.keeper c.requires.keeps) few
