use Rattle.std.proofs.Common.{subst}
use Rattle.p21_stream.specs.Held.{SessionHeld}
use Rattle.p21_stream.specs.Histories.{CountGives}
use Rattle.p21_stream.proofs.any_session.AnySession.count.Goals as goal

pub returns-clause-gives : goal.returns-clause-gives
returns-clause-gives c = subst (λ (h : SessionHeld). CountGives h c.count.result) c.self.view_is
    (c.count.ensures.gives c.self.inside.limits)

pub returns-clause-kind : goal.returns-clause-kind
returns-clause-kind c = c.count.ensures.kind c.self.inside.limits c.self.invariant.0

pub count-requires : goal.count-requires
count-requires c = (c.self.inside.limits, c.self.invariant.0)
