use Rattle.p21_stream_survey.proofs.Broke.{slice-apart, passes-broken}
use Rattle.p21_stream_survey.proofs.breaking.pass_broken.Goals as goal

pub returns-in-Ok-pass-clause-passes : goal.returns-in-Ok-pass-clause-passes
returns-in-Ok-pass-clause-passes c =
    passes-broken c.log_laws.ensures.refused c.args.log.now c.pass.new.self c.args.fault c.args.bytes.now c.in-Ok.front.now _
    c.in-Ok-pass.passage c.in-Ok.ensures.front (slice-apart c.args.bytes.now c.in-Ok.front.now c.in-Ok.ensures.front)
    c.in-Ok-pass.ensures.gives

pub returns-in-Ok-pass-clause-stays : goal.returns-in-Ok-pass-clause-stays
returns-in-Ok-pass-clause-stays c = c.in-Ok-pass.ensures.gives.0
