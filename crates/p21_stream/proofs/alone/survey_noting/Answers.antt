use Rattle.std.proofs.Common.{ℕ, subst, ◌∙◌}
use Rattle.std.proofs.lemmas.Result.{IfOk-weaker}
use Rattle.p21_stream.proofs.SurveyInput.{alone-most, failures-alone, out-of, read-alone, surveyed-alone}
use Rattle.p21_stream.specs.Alone.{HandsOn}
use Rattle.p21_stream.specs.declared.alone.LocatedAlone.{LocatedAlone}
use Rattle.p21_stream_survey.specs.Found.{FindsAtMost}
use Rattle.p21_stream.proofs.alone.survey_noting.Goals as goal

pub finish-requires : goal.finish-requires
finish-requires g c = out-of c.args.limits _ _ c.feed_all.new.survey c.in-Ok.has_failed c.in-Ok.ensures.surveyed

pub returns-clause-surveys : goal.returns-clause-surveys
returns-clause-surveys g c =
    let fed = c.in-Ok.ensures in
    let finds = c.in-Ok-finish.ensures in
    IfOk-weaker _ _ _
    (λ (located : LocatedAlone) (hands : HandsOn c.in-Ok-finish.found located.found). surveyed-alone c.list_laws.ensures.listed
    c.list_laws.ensures.ended c.args.limits c.feed_all.new.survey
    (fed.same.rules ∙ c.by_itself-survey.ensures.rules) (fed.same.limits ∙ c.by_itself-survey.ensures.limits) fed.counted _ _ c.in-Ok-finish.found
    finds.finds c.in-Ok.has_failed fed.surveyed finds.kinds
    finds.interrupted located.found hands) c.hand_on.ensures

pub returns-clause-counted : goal.returns-clause-counted
returns-clause-counted g c =
    let most = c.in-Ok.ensures.same.most ∙ c.by_itself-survey.ensures.most in
    IfOk-weaker _ _ _
    (λ (located : LocatedAlone) (hands : HandsOn c.in-Ok-finish.found located.found). alone-most _ c.in-Ok-finish.found located.found
    (subst (λ (n : ℕ). FindsAtMost n c.in-Ok-finish.found) most c.in-Ok-finish.ensures.counted) hands)
    c.hand_on.ensures

pub returns-clause-failed : goal.returns-clause-failed
returns-clause-failed g c =
    let fed = c.in-Ok.ensures in
    let finds = c.in-Ok-finish.ensures in
    IfOk-weaker _ _ _
    (λ (located : LocatedAlone) (hands : HandsOn c.in-Ok-finish.found located.found). failures-alone c.list_laws.ensures.listed
    c.list_laws.ensures.ended c.args.limits c.feed_all.new.survey
    (fed.same.rules ∙ c.by_itself-survey.ensures.rules) (fed.same.limits ∙ c.by_itself-survey.ensures.limits) fed.counted _ _ c.in-Ok-finish.found
    finds.finds c.in-Ok.has_failed fed.surveyed
    finds.interrupted located.found hands _ _ fed.failures) c.hand_on.ensures

pub returns-clause-ends_by_read : goal.returns-clause-ends_by_read
returns-clause-ends_by_read g c =
    let fed = c.in-Ok.ensures in
    let finds = c.in-Ok-finish.ensures in
    IfOk-weaker _ _ _
    (λ (located : LocatedAlone) (hands : HandsOn c.in-Ok-finish.found located.found). read-alone c.list_laws.ensures.listed
    c.list_laws.ensures.ended c.args.limits c.feed_all.new.survey
    (fed.same.rules ∙ c.by_itself-survey.ensures.rules) (fed.same.limits ∙ c.by_itself-survey.ensures.limits) fed.counted _ _ c.in-Ok-finish.found
    finds.finds c.in-Ok.has_failed fed.surveyed finds.kinds
    located.found hands _ _ fed.failures) c.hand_on.ensures
