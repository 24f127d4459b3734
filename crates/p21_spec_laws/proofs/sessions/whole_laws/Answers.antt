-- The laws, from the theorems.
use Rattle.p21_spec_laws.proofs.sessions.whole_laws.Goals as goal
use Rattle.p21_spec_laws.proofs.Whole.{unrefused-accepted, unrefused-ended, unrefused-headings, unrefused-text_size, last-token, unserved-not_accepted, within-up_to}

pub returns : goal.returns
returns c = record { last_token = last-token; within = within-up_to; ended = unrefused-ended; headings = unrefused-headings; size = unrefused-text_size; accepted = unrefused-accepted; unserved = unserved-not_accepted }
