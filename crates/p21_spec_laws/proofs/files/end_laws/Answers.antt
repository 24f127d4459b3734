-- The laws, from the theorems.
use Rattle.p21_spec_laws.proofs.files.end_laws.Goals as goal
use Rattle.p21_spec_laws.proofs.Ending.{no-laying_at_end, no-tree, unserved, unknown, unfit, dead-refused, ended-accepted}
use Rattle.p21_spec_laws.proofs.Exact.{accepted-ended}

pub returns : goal.returns
returns c = record { no_laying = no-laying_at_end; no_tree = no-tree; unserved = unserved; unknown = unknown; unfit = unfit; dead = dead-refused; accepted = ended-accepted; ended = accepted-ended }
