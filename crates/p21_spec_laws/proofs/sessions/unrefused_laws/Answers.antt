-- The laws, from the theorems.
use Rattle.p21_spec_laws.proofs.sessions.unrefused_laws.Goals as goal
use Rattle.p21_spec_laws.proofs.Growth.{groups-of_unrefused, unrefused-at_start, unrefused-by_header, unrefused-by_instance, unrefused-by_line, canonical_size-of_unrefused, names-of_unrefused}

pub returns : goal.returns
returns c = record { at_start = unrefused-at_start; by_line = unrefused-by_line; by_header = unrefused-by_header; by_instance = unrefused-by_instance; names = names-of_unrefused; groups = groups-of_unrefused; kept = canonical_size-of_unrefused }
