use Rattle.std.proofs.Common.{subst, sym}
use Rattle.p21_spec_laws.specs.Stored.{with_lines}
use Rattle.p21_stream.specs.Bounds.{KeepsLines}
use Rattle.p21_stream.specs.Held.{SessionHeld}
use Rattle.p21_stream.specs.Histories.{FinishGives, RefusesAtEnd}
use Rattle.p21_stream.proofs.any_session.AnySession.finish.Goals as goal

pub returns-clause-gives : goal.returns-clause-gives
returns-clause-gives c = subst (λ (h : SessionHeld). FinishGives h c.finish.result) c.self.view_is
    (c.finish.ensures.gives c.self.inside.limits)

pub returns-clause-again : goal.returns-clause-again
returns-clause-again c = subst (λ (h : SessionHeld). RefusesAtEnd h c.finish.result) c.self.view_is
    (c.finish.ensures.again c.self.inside.limits)

pub returns-clause-kind : goal.returns-clause-kind
returns-clause-kind c = c.finish.ensures.kind c.self.inside.limits c.self.invariant.0

pub finish-requires-clause-bounded : goal.finish-requires-clause-bounded
finish-requires-clause-bounded c = (c.self.inside.limits, c.self.invariant.0)

pub finish-requires-clause-lines : goal.finish-requires-clause-lines
finish-requires-clause-lines c = subst (λ (h : SessionHeld). KeepsLines with_lines h.refused h.kept) (sym c.self.view_is) c.requires
