use Rattle.std.proofs.Common.{subst}
use Rattle.p21_stream.specs.Held.{SessionHeld}
use Rattle.p21_stream.specs.Histories.{FinishGives, RefusesAtEnd}
use Rattle.p21_stream.proofs.session.Session.finish.Goals as goal

pub finish-requires : goal.finish-requires
finish-requires c = c.self.invariant

pub returns-clause-gives : goal.returns-clause-gives
returns-clause-gives c = subst (λ (h : SessionHeld). FinishGives h c.finish.result) c.self.view_is c.finish.ensures.gives

pub returns-clause-again : goal.returns-clause-again
returns-clause-again c = subst (λ (h : SessionHeld). RefusesAtEnd h c.finish.result) c.self.view_is c.finish.ensures.again
