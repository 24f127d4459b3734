-- The laws, from the theorems.
use Rattle.p21_spec_laws.proofs.files.taken_laws.Goals as goal
use Rattle.p21_spec_laws.proofs.TokenPrefixes.{prefix-taken, statements-ended, taken-further, no-laying, no-front, dead-further}

pub returns : goal.returns
returns c = record { front = prefix-taken; statements = statements-ended; further = taken-further; no_laying = no-laying; no_front = no-front; dead_further = dead-further }
