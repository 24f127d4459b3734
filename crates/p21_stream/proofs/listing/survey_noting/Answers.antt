use Rattle.std.proofs.Common.{ℕ, subst, ◌∙◌}
use Rattle.std.proofs.lemmas.Result.{IfOk-weaker}
use Rattle.p21_stream.proofs.SurveyInput.{failures-input, listed-most, out-of, read-input, surveyed-input}
use Rattle.p21_stream.specs.SurveyFeeding.{HandsOn}
use Rattle.p21_stream.specs.declared.listing.LocatedSurvey.{LocatedSurvey}
use Rattle.p21_stream_survey.specs.Found.{FindsAtMost}
use Rattle.p21_stream.proofs.listing.survey_noting.Goals as goal

pub finish-requires : goal.finish-requires
finish-requires g c = out-of c.args.limits _ _ c.feed_all.new.survey c.in-Ok.has_failed c.in-Ok.ensures.surveyed

pub returns-clause-surveys : goal.returns-clause-surveys
returns-clause-surveys g c =
    let fed = c.in-Ok.ensures in
    let finds = c.in-Ok-finish.ensures in
    IfOk-weaker _ _ _
    (λ (located : LocatedSurvey) (hands : HandsOn c.in-Ok-finish.found located.found). surveyed-input c.list_laws.ensures.listed
    c.list_laws.ensures.ended c.args.schema.now c.well_formed-2.ensures c.args.limits c.feed_all.new.survey
    (fed.same.rules ∙ c.new-survey.ensures.rules) (fed.same.limits ∙ c.new-survey.ensures.limits) fed.counted _ _ c.in-Ok-finish.found
    finds.finds c.in-Ok.has_failed fed.surveyed finds.kinds
    finds.interrupted located.found hands) c.hand_on.ensures

pub returns-clause-counted : goal.returns-clause-counted
returns-clause-counted g c =
    let most = c.in-Ok.ensures.same.most ∙ c.new-survey.ensures.most in
    IfOk-weaker _ _ _
    (λ (located : LocatedSurvey) (hands : HandsOn c.in-Ok-finish.found located.found). listed-most _ c.in-Ok-finish.found located.found
    (subst (λ (n : ℕ). FindsAtMost n c.in-Ok-finish.found) most c.in-Ok-finish.ensures.counted) hands)
    c.hand_on.ensures

pub returns-clause-failed : goal.returns-clause-failed
returns-clause-failed g c =
    let fed = c.in-Ok.ensures in
    let finds = c.in-Ok-finish.ensures in
    IfOk-weaker _ _ _
    (λ (located : LocatedSurvey) (hands : HandsOn c.in-Ok-finish.found located.found). failures-input c.list_laws.ensures.listed
    c.list_laws.ensures.ended c.args.schema.now c.well_formed-2.ensures c.args.limits c.feed_all.new.survey
    (fed.same.rules ∙ c.new-survey.ensures.rules) (fed.same.limits ∙ c.new-survey.ensures.limits) fed.counted _ _ c.in-Ok-finish.found
    finds.finds c.in-Ok.has_failed fed.surveyed
    finds.interrupted located.found hands _ _ fed.failures) c.hand_on.ensures

pub returns-clause-ends_by_read : goal.returns-clause-ends_by_read
returns-clause-ends_by_read g c =
    let fed = c.in-Ok.ensures in
    let finds = c.in-Ok-finish.ensures in
    IfOk-weaker _ _ _
    (λ (located : LocatedSurvey) (hands : HandsOn c.in-Ok-finish.found located.found). read-input c.list_laws.ensures.listed
    c.list_laws.ensures.ended c.args.schema.now c.well_formed-2.ensures c.args.limits c.feed_all.new.survey
    (fed.same.rules ∙ c.new-survey.ensures.rules) (fed.same.limits ∙ c.new-survey.ensures.limits) fed.counted _ _ c.in-Ok-finish.found
    finds.finds c.in-Ok.has_failed fed.surveyed finds.kinds
    located.found hands _ _ fed.failures) c.hand_on.ensures
