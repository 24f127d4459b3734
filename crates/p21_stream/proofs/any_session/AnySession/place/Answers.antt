use Rattle.std.proofs.Common.{subst}
use Rattle.p21_stream.specs.Held.{SessionHeld}
use Rattle.p21_stream.specs.Histories.{HasPlaceOf}
use Rattle.p21_stream.proofs.any_session.AnySession.place.Goals as goal

pub returns : goal.returns
returns c = subst (λ (h : SessionHeld). HasPlaceOf h c.place.result) c.self.view_is
    (c.place.ensures c.self.inside.schema.now c.self.inside.limits)
