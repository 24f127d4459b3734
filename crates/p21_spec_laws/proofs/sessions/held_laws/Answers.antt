-- The laws, from the theorems.
use Rattle.p21_spec_laws.proofs.sessions.held_laws.Goals as goal
use Rattle.p21_spec_laws.proofs.Holding.{unrefused-held, references-counted, references-few, statements-ended}

pub returns : goal.returns
returns c = record { held = unrefused-held; ended = statements-ended; references = references-counted; few = references-few }
