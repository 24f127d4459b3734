use Rattle.std.proofs.Common.{subst}
use Rattle.p21_stream.specs.Bounds.{StaysKept}
use Rattle.p21_stream.specs.Held.{SessionHeld}
use Rattle.p21_stream.proofs.any_session.AnySession.feed.Goals as goal

pub returns-clause-lines : goal.returns-clause-lines
returns-clause-lines c = subst (λ (h : SessionHeld). StaysKept h.refused h.kept c.feed.new.self.refused c.feed.new.self.walk.kept)
    c.self.view_is c.feed.ensures.lines
