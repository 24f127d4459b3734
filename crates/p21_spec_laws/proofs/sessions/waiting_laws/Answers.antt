-- The laws, from the theorems.
use Rattle.p21_spec_laws.proofs.sessions.waiting_laws.Goals as goal
use Rattle.p21_spec_laws.proofs.Waits.{none-waits, served-by_entry, served-further, waiting-at_start, waiting-by_instance}

pub returns : goal.returns
returns c = record { at_start = waiting-at_start; by_instance = waiting-by_instance; further = served-further; by_entry = served-by_entry; none_waits = none-waits }
