use Rattle.p21_stream.proofs.session.Session.feed.Goals as goal

pub invariant_of-self : goal.invariant_of-self
invariant_of-self c = c.feed.ensures.lines _ c.self.invariant
