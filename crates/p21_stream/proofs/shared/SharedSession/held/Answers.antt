use Rattle.std.proofs.Common.{subst}
use Rattle.std.specs.Arc.{arc_value}
use Rattle.p21_stream.specs.Held.{SessionHeld}
use Rattle.p21_stream.specs.Histories.{HoldsFor}
use Rattle.p21_stream.specs.Inside.{held_of}
use Rattle.p21_stream.proofs.shared.SharedSession.held.Goals as goal

pub returns-clause-held : goal.returns-clause-held
returns-clause-held c = subst (λ (h : SessionHeld). HoldsFor h (held_of c.held.result)) c.self.view_is
    (c.held.ensures.held (arc_value c.self.inside.schema) c.self.inside.limits)
