use Rattle.std.proofs.Common.{refl}
use Rattle.p21_stream_survey.proofs.Refusals.{passes-by, passes-last}
use Rattle.p21_stream_survey.proofs.survey.Survey.pass_refused.Goals as goal

pub returns-in-Ok-clause-passes : goal.returns-in-Ok-clause-passes
returns-in-Ok-clause-passes c =
    passes-last c.log_laws.ensures.refused c.args.self.now c.end_with_stretch.new.self c.args.fault c.args.bytes.now c.args.count
    c.begins_in.result c.on.result c.begins_in.ensures.begins (c.if-is_last.ensures.yes refl) c.in-Ok.ensures

pub returns-clause-passes : goal.returns-clause-passes
returns-clause-passes c =
    passes-by c.log_laws.ensures.too_far c.args.self.now c.go_on_behind.new.log c.go_on_behind.new.listing c.go_by.new.self c.args.fault
    c.args.bytes.now c.args.count c.begins_in.result c.in-Ok-go_on_behind.passage c.go_by.result c.begins_in.ensures.begins
    (c.if-is_last.ensures.no refl)
    c.in-Ok-go_on_behind.ensures.goes c.in-Ok-go_on_behind.ensures.stays c.in-Ok-go_on_behind.ensures.begins c.go_by.ensures.goes
