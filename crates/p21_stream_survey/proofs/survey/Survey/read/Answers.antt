use Rattle.std.proofs.Common.{Option, subst}
use Rattle.p21_stream_survey.proofs.Taken.{prepared-goes}
use Rattle.p21_stream_survey.specs.Taking.{TakesInstances}
use Rattle.p21_stream_survey.specs.declared.stage.Stage.TheVariants.{Reading}
use Rattle.p21_stream_survey.specs.declared.survey.Next.{Next}
use Rattle.p21_stream_survey.proofs.survey.Survey.read.Goals as goal

pub returns-in-Ok-None-clause-goes : goal.returns-in-Ok-None-clause-goes
returns-in-Ok-None-clause-goes c =
    let old = c.args.self.now in
    let new = c.take_instances.new.self in
    prepared-goes old new
    (subst (λ (next : Option Next). TakesInstances old c.args.rest.now next new) c.in-Ok-None.field-0-is c.in-Ok-None.ensures.takes)
    c.read_token-in-Ok-None.new.self Reading c.args.rest.now c.read_token-in-Ok-None.result c.read_token-in-Ok-None.ensures.goes
