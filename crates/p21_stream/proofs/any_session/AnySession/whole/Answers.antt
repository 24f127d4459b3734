use Rattle.std.proofs.Common.{subst, ◌∙◌}
use Rattle.std.proofs.lemmas.Result.{IfOk-weaker}
use Rattle.std.specs.Prelude.{◌≡◌, IfOk, None}
use Rattle.p21_spec_laws.specs.Keeping.{Kept}
use Rattle.p21_spec_laws.specs.Stored.{KeptLines}
use Rattle.p21_stream.specs.Bounds.{KeepsLines}
use Rattle.p21_stream.specs.Held.{SessionHeld}
use Rattle.p21_stream.specs.Histories.{WholeGives}
use Rattle.p21_stream.proofs.any_session.AnySession.whole.Goals as goal

pub returns-clause-gives : goal.returns-clause-gives
returns-clause-gives c = subst (λ (h : SessionHeld). WholeGives h c.whole.result) c.self.view_is
    (c.whole.ensures.gives c.self.inside.limits)

pub returns-clause-lines : goal.returns-clause-lines
returns-clause-lines c = subst (λ (h : SessionHeld). (lines : KeptLines) → KeepsLines lines h.refused h.kept
    → IfOk c.whole.result (λ (k : Kept). k.lines ≡ lines)) c.self.view_is
    (λ lines keeps. IfOk-weaker c.whole.result (λ (k : Kept). (c.self.inside.progress.refused ≡ None)
    × (k.lines ≡ c.self.inside.progress.walk.kept.lines)) (λ (k : Kept). k.lines ≡ lines) (λ k is. is.1 ∙ keeps is.0)
    c.whole.ensures.lines)

pub returns-clause-kind : goal.returns-clause-kind
returns-clause-kind c = c.whole.ensures.kind c.self.inside.limits c.self.invariant.0

pub whole-requires : goal.whole-requires
whole-requires c = (c.self.inside.limits, c.self.invariant.0)
