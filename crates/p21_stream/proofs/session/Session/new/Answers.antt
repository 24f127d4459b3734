use Rattle.p21_stream.proofs.session.Session.new.Goals as goal

pub invariant_of-result : goal.invariant_of-result
invariant_of-result c = c.keeping.ensures.lines
