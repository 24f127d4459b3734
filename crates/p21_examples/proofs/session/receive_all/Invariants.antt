use Rattle.p21_examples.proofs.session.receive_all.Given as goal
use Rattle.p21_examples.specs.Receiving.{IsFed}

-- the session was fed what the source has given
abbrev pub invariant-loop : goal.invariant-loop
invariant-loop g l = IsFed l.schema l.fn.limits (g.R.Read.remaining l.fn.source) (g.R.Read.remaining l.source) l.session
