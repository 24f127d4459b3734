use Rattle.std.proofs.Common.{sym, subst}
use Rattle.p21_spec_schema.specs.Schema.{Schema}
use Rattle.p21_stream.specs.Bounds.{IsBounded}
use Rattle.p21_stream.specs.Held.{SessionHeld}
use Rattle.p21_stream.specs.Histories.{FinishGives, RefusesAtEnd}
use Rattle.p21_stream.specs.Inside.{held_in}
use Rattle.p21_stream.proofs.shared.SharedSession.finish.Goals as goal

pub returns-clause-gives : goal.returns-clause-gives
returns-clause-gives c = subst (λ (h : SessionHeld). FinishGives h c.finish.result) c.self.view_is
    (subst (λ (s : Schema). FinishGives (held_in s c.self.inside.limits c.self.inside.progress) c.finish.result) c.deref.ensures
    (c.finish.ensures.gives c.self.inside.limits))

pub returns-clause-again : goal.returns-clause-again
returns-clause-again c = subst (λ (h : SessionHeld). RefusesAtEnd h c.finish.result) c.self.view_is
    (subst (λ (s : Schema). RefusesAtEnd (held_in s c.self.inside.limits c.self.inside.progress) c.finish.result) c.deref.ensures
    (c.finish.ensures.again c.self.inside.limits))

pub returns-clause-kind : goal.returns-clause-kind
returns-clause-kind c = c.finish.ensures.kind c.self.inside.limits
    (subst (λ (s : Schema). IsBounded (held_in s c.self.inside.limits c.self.inside.progress)) (sym c.deref.ensures) c.self.invariant.0)

pub finish-requires-clause-lines : goal.finish-requires-clause-lines
finish-requires-clause-lines c = c.self.invariant.2

pub finish-requires-clause-bounded : goal.finish-requires-clause-bounded
finish-requires-clause-bounded c = (
  c.self.inside.limits,
  subst (λ (s : Schema). IsBounded (held_in s c.self.inside.limits c.self.inside.progress)) (sym c.deref.ensures) c.self.invariant.0,
)
