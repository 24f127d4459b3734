use Rattle.std.proofs.Common.{◌≡◌, ◌↔◌, ◌+◌, ◌-◌, ◌<◌, IfSome, ℕ, Bool, IsTrue, List, [], ◌++◌, length, Option, Some, None, refl, sym, ap, subst, arith}
use Rattle.p21_spec_survey.specs.Landmark.{IsOpened}
use Rattle.p21_stream_log.proofs.Passages.{FindsLexedInside, IsOpenedBy, by-inside, by-none, by-seeker}
use Rattle.p21_stream_log.specs.Log.{Held}
use Rattle.p21_stream_resume.specs.Seeking.{Seeks, SeeksOn}
use Rattle.p21_stream_resume.specs.declared.signpost.Signpost.{Signpost}
use Rattle.p21_stream_log.proofs.log.Log.pass.Goals as goal

pub returns-in-Some-clause-gives : goal.returns-in-Some-clause-gives
returns-in-Some-clause-gives c =
    by-inside c.signpost_laws.ensures.goes_by c.args.self.now c.pass_to.new.self c.args.statement.now c.args.behind.now c.in-Some.count
    c.in-Some.signpost c.pass_to.result
    (subst (λ (found : Option (ℕ × Signpost)). FindsLexedInside c.args.statement.now c.args.behind.now found) c.in-Some.is
    c.signpost_inside.ensures) c.pass_to.ensures.gives

pub returns-in-Ok-Some-clause-gives : goal.returns-in-Ok-Some-clause-gives
returns-in-Ok-Some-clause-gives c =
    let opened_is : c.self.inside.opened ≡ c.args.self.now.opened = ap (λ (h : Held). h.opened) c.self.view_is in
    let seeks : (before : List ℕ) → IsOpenedBy c.args.self.now before → Seeks (before ++ c.args.statement.now) [] c.new-seeker.result =
    λ before opens. c.new-seeker.ensures (before ++ c.args.statement.now)
    (c.is_opened_behind.ensures before (subst (λ (b : Bool). IsTrue b ↔ IsOpened before) (sym opened_is) opens)) in
    let gives : SeeksOn c.new-seeker.result c.args.behind.now (Some (c.in-Ok-Some.last, c.in-Ok-Some.signpost)) c.seek.new.self =
    subst (λ (found : Option (ℕ × Signpost)). SeeksOn c.new-seeker.result c.args.behind.now found c.seek.new.self) c.in-Ok-Some.field-0-is
    c.in-Ok-Some.ensures.gives in
    let low : c.in-Ok-Some.last < length c.args.behind.now =
    subst (λ (found : Option (ℕ × Signpost)). IfSome found (λ f. f.0 < length c.args.behind.now)) c.in-Ok-Some.field-0-is
    c.in-Ok-Some.ensures.within in
    let begun_is : length c.signpost_bytes-size.result.now ≡ length c.seek.new.self.begun = ap length c.signpost_bytes-size.ensures in
    let count_is : c.saturating_sub-count.result ≡ length c.args.statement.now + (c.in-Ok-Some.last + 1) - length c.seek.new.self.begun =
    omega (arith, c.saturating_sub-count.ensures, begun_is) in
    by-seeker c.signpost_laws.ensures.goes_by c.args.self.now c.pass_to-in-Ok-Some.new.self c.args.statement.now c.args.behind.now
    c.in-Ok-Some.last c.saturating_sub-count.result c.in-Ok-Some.signpost c.seek.new.self c.pass_to-in-Ok-Some.result
    (subst (λ (found : Option (ℕ × Signpost)). FindsLexedInside c.args.statement.now c.args.behind.now found) c.in_default.is
    c.signpost_inside.ensures) low (λ before opens. gives (before ++ c.args.statement.now) [] (seeks before opens)) count_is
    c.pass_to-in-Ok-Some.ensures.gives

pub returns-in-Ok-None-clause-gives : goal.returns-in-Ok-None-clause-gives
returns-in-Ok-None-clause-gives c =
    let opened_is : c.self.inside.opened ≡ c.args.self.now.opened = ap (λ (h : Held). h.opened) c.self.view_is in
    let seeks : (before : List ℕ) → IsOpenedBy c.args.self.now before → Seeks (before ++ c.args.statement.now) [] c.new-seeker.result =
    λ before opens. c.new-seeker.ensures (before ++ c.args.statement.now)
    (c.is_opened_behind.ensures before (subst (λ (b : Bool). IsTrue b ↔ IsOpened before) (sym opened_is) opens)) in
    let gives : SeeksOn c.new-seeker.result c.args.behind.now None c.seek.new.self =
    subst (λ (found : Option (ℕ × Signpost)). SeeksOn c.new-seeker.result c.args.behind.now found c.seek.new.self) c.in-Ok-None.field-0-is
    c.in-Ok-None.ensures.gives in
    by-none c.args.self.now c.args.self.now c.args.statement.now c.args.behind.now c.seek.new.self refl
    (subst (λ (found : Option (ℕ × Signpost)). FindsLexedInside c.args.statement.now c.args.behind.now found) c.in_default.is
    c.signpost_inside.ensures) (λ before opens. (gives (before ++ c.args.statement.now) [] (seeks before opens)).0)
