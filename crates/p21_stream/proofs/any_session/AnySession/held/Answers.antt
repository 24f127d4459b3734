use Rattle.std.proofs.Common.{subst}
use Rattle.p21_stream.specs.Held.{SessionHeld}
use Rattle.p21_stream.specs.Histories.{HoldsFor}
use Rattle.p21_stream.specs.Inside.{held_of}
use Rattle.p21_stream.proofs.any_session.AnySession.held.Goals as goal

pub returns-clause-held : goal.returns-clause-held
returns-clause-held c = subst (λ (h : SessionHeld). HoldsFor h (held_of c.held.result)) c.self.view_is
    (c.held.ensures.held c.self.inside.schema.now c.self.inside.limits)
