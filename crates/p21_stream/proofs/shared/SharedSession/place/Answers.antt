use Rattle.std.proofs.Common.{subst}
use Rattle.std.specs.Arc.{arc_value}
use Rattle.p21_stream.specs.Held.{SessionHeld}
use Rattle.p21_stream.specs.Histories.{HasPlaceOf}
use Rattle.p21_stream.proofs.shared.SharedSession.place.Goals as goal

pub returns : goal.returns
returns c = subst (λ (h : SessionHeld). HasPlaceOf h c.place.result) c.self.view_is
    (c.place.ensures (arc_value c.self.inside.schema) c.self.inside.limits)
