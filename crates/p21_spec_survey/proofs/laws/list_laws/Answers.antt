-- The laws, from the theorems.
use Rattle.p21_spec_survey.proofs.laws.list_laws.Goals as goal
use Rattle.p21_spec_survey.proofs.Kept.{ended-not_accepted, listed-not_accepted}

pub returns : goal.returns
returns c = record { listed = listed-not_accepted; ended = ended-not_accepted }
