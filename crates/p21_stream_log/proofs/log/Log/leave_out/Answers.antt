use Rattle.std.proofs.Common.{◌≡◌, ℕ, List, Option, Some, None, refl, ap, subst, ◌∙◌}
use Rattle.p21_stream_log.proofs.LeavingOut.{FindsLexed, left-inside, left-out-gives}
use Rattle.p21_stream_log.specs.Log.{Held}
use Rattle.p21_stream_resume.specs.declared.signpost.Signpost.{Signpost}
use Rattle.p21_stream_log.proofs.log.Log.leave_out.Goals as goal

pub returns-in-Some-clause-gives : goal.returns-in-Some-clause-gives
returns-in-Some-clause-gives c =
    let same : c.deref.result.now ≡ c.args.self.now.buffer = c.deref.ensures.value ∙ ap (λ (h : Held). h.buffer) c.self.view_is in
    left-inside c.args.self.now c.args.self.now c.in-Some.field-0
    (subst (λ (l : List ℕ). FindsLexed l (Some c.in-Some.field-0)) same
    (subst (λ (found : Option (ℕ × Signpost)). FindsLexed c.deref.result.now found) c.in-Some.is c.signpost_in_string.ensures)) refl

pub returns-clause-gives : goal.returns-clause-gives
returns-clause-gives c =
    let same : c.deref.result.now ≡ c.args.self.now.buffer = c.deref.ensures.value ∙ ap (λ (h : Held). h.buffer) c.self.view_is in
    left-out-gives c.whole_laws.ensures.joined c.args.self.now c.close.new.self c.begins-begins.result
    (subst (λ (l : List ℕ). FindsLexed l None) same (subst (λ (found : Option (ℕ × Signpost)). FindsLexed c.deref.result.now found)
    c.in_default.is c.signpost_in_string.ensures))
    c.begins-begins.ensures c.close.ensures
