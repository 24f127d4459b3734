use Rattle.std.proofs.Common.{◌≡◌, ◌↔◌, ℕ, Bool, IsTrue, List, [], ◌++◌, Option, Some, None, refl, sym, ap, subst}
use Rattle.p21_spec_survey.specs.Landmark.{IsOpened}
use Rattle.p21_stream_log.proofs.Boundless.{text-inside}
use Rattle.p21_stream_log.proofs.Passages.{IsOpenedBy, by-inside, by-none}
use Rattle.p21_stream_log.specs.Log.{Held}
use Rattle.p21_stream_resume.specs.Seeking.{Seeks}
use Rattle.p21_stream_resume.specs.Standing.{FindsInText}
use Rattle.p21_stream_resume.specs.declared.signpost.Signpost.{Signpost}
use Rattle.p21_stream_log.proofs.log.Log.pass_unended.Goals as goal

pub returns-in-Some-clause-gives : goal.returns-in-Some-clause-gives
returns-in-Some-clause-gives c =
    by-inside c.signpost_laws.ensures.goes_by c.args.self.now c.pass_to.new.self c.args.statement.now [] c.in-Some.count c.in-Some.signpost
    c.pass_to.result
    (λ state lexed. text-inside c.args.statement.now (Some (c.in-Some.count, c.in-Some.signpost))
    (subst (λ (found : Option (ℕ × Signpost)). FindsInText c.args.statement.now found) c.in-Some.is
    (c.signpost_in_unended.ensures state lexed))) c.pass_to.ensures.gives

pub returns-in-None-clause-gives : goal.returns-in-None-clause-gives
returns-in-None-clause-gives c =
    let opened_is : c.self.inside.opened ≡ c.args.self.now.opened = ap (λ (h : Held). h.opened) c.self.view_is in
    let seeks : (before : List ℕ) → IsOpenedBy c.args.self.now before → Seeks (before ++ c.args.statement.now) [] c.new.result =
    λ before opens. c.new.ensures (before ++ c.args.statement.now)
    (c.is_opened_behind.ensures before (subst (λ (b : Bool). IsTrue b ↔ IsOpened before) (sym opened_is) opens)) in
    by-none c.args.self.now c.args.self.now c.args.statement.now [] c.new.result refl
    (λ state lexed. text-inside c.args.statement.now None
    (subst (λ (found : Option (ℕ × Signpost)). FindsInText c.args.statement.now found) c.in-None.is
    (c.signpost_in_unended.ensures state lexed))) seeks
