use Rattle.std.proofs.Common.{◌≡◌, ◌∙◌, ap, subst, sym, IfOk, Result, Ok}
use Rattle.p21_stream_statements.specs.declared.fault.Fault.{Fault}
use Rattle.p21_stream_survey.specs.Walking.{FollowsJudged}
use Rattle.p21_stream_survey.specs.declared.judging.Judgement.{Judgement}
use Rattle.p21_stream_survey.proofs.survey.Survey.follow.Goals as goal

pub returns-in-Err : goal.returns-in-Err
returns-in-Err c = subst (λ (j : Result Judgement Fault). IfOk c.follow_refused.result
    (λ again. FollowsJudged c.args.self.now j again.items c.follow_refused.new.self)) (sym c.in-Err.is) c.follow_refused.ensures

pub returns-in-Right : goal.returns-in-Right
returns-in-Right c =
    let is : c.args.judgement ≡ Ok c.in-Ok.judged = c.in-Ok.is in
    subst (λ (j : Result Judgement Fault). IfOk c.follow_right.result
    (λ again. FollowsJudged c.args.self.now j again.items c.follow_right.new.self))
    (sym (is ∙ ap (λ (j : Judgement). (let r : Result Judgement Fault = Ok j in r)) c.in-Right.is)) c.follow_right.ensures

pub returns-in-Wrong : goal.returns-in-Wrong
returns-in-Wrong c =
    let is : c.args.judgement ≡ Ok c.in-Ok.judged = c.in-Ok.is in
    subst (λ (j : Result Judgement Fault). IfOk c.follow_wrong.result
    (λ again. FollowsJudged c.args.self.now j again.items c.follow_wrong.new.self))
    (sym (is ∙ ap (λ (j : Judgement). (let r : Result Judgement Fault = Ok j in r)) c.in-Wrong.is)) c.follow_wrong.ensures
