-- The laws, from the theorems.
use Rattle.p21_spec_laws.proofs.sessions.fitting_laws.Goals as goal
use Rattle.p21_spec_laws.proofs.Fitting.{fits-by_text, fits-with_no_text, names-at_end, names-by_character, names-no_more, names-up_to_other}

pub returns : goal.returns
returns c = record { schema_text = fits-by_text; no_schema_text = fits-with_no_text; at_end = names-at_end; by_character = names-by_character; no_more = names-no_more; up_to_other = names-up_to_other }
