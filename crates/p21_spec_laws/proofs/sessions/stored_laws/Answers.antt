-- The laws, from the theorems.
use Rattle.p21_spec_laws.proofs.sessions.stored_laws.Goals as goal
use Rattle.p21_spec_laws.proofs.Storing.{blocks-of_groups, none-stored, none-stored_unknown, store-at_start, store-by_entry, store-by_line, stored-entry, stored-lines, stored-serves, stored-size, stored-unfit}

pub returns : goal.returns
returns c = record { at_start = store-at_start; by_line = store-by_line; by_entry = store-by_entry; is_entry = stored-entry; none = none-stored; size = stored-size; serves = stored-serves; unfit = stored-unfit; unknown = none-stored_unknown; lines = stored-lines; blocks = blocks-of_groups }
