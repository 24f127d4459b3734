use Rattle.std.proofs.Common.{IfSome, Option, ◌≤◌, length, refl, subst}
use Rattle.p21_stream_survey.proofs.Taken.{instances-follow, judged-follows, taken-goes}
use Rattle.p21_stream_survey.specs.Taking.{TakesInstance}
use Rattle.p21_stream_survey.specs.declared.keeper.JudgedInstance.{JudgedInstance}
use Rattle.p21_stream_survey.proofs.survey.Survey.take_instance.Goals as goal

pub take_instance-requires-clause-follows : goal.take_instance-requires-clause-follows
take_instance-requires-clause-follows c = instances-follow c.args.self.now c.args.rest.now c.requires.reading c.requires.under_way

pub follow-requires : goal.follow-requires
follow-requires c =
    let old = c.args.self.now in
    let rest = c.args.rest.now in
    let one = c.in-Some.field-0 in
    let held = c.take_instance.new.log in
    let keeper = c.take_instance.new.self in
    let is = subst (λ (taken : Option JudgedInstance). TakesInstance old.keeper old.limits old.log rest taken keeper held) c.in-Some.is
    c.in-Ok.ensures.takes in
    judged-follows old held rest one.count is.name is.record_ c.requires.reading is.first is.passes is.keeps keeper one.judgement is.gives
    c.in-Ok.ensures.stays c.requires.under_way

pub returns-in-Ok-follow-clause-takes : goal.returns-in-Ok-follow-clause-takes
returns-in-Ok-follow-clause-takes c =
    let old = c.args.self.now in
    let rest = c.args.rest.now in
    let one = c.in-Some.field-0 in
    let held = c.take_instance.new.log in
    let keeper = c.take_instance.new.self in
    let is = subst (λ (taken : Option JudgedInstance). TakesInstance old.keeper old.limits old.log rest taken keeper held) c.in-Some.is
    c.in-Ok.ensures.takes in
    let within = subst (λ (taken : Option JudgedInstance). IfSome taken (λ judged. judged.count ≤ length rest)) c.in-Some.is
    c.in-Ok.ensures.within in
    let again = c.in-Ok-follow.again in
    taken-goes old held rest one.count is.name is.record_ c.requires.reading is.first is.passes is.keeps keeper one.judgement is.gives
    c.in-Ok.ensures.stays again.items (record { count = one.count; again = again }) c.follow.new.self is.some within c.in-Ok-follow.ensures
    refl refl
