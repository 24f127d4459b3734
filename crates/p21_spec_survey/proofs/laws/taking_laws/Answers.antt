-- The laws, from the theorems.
use Rattle.p21_spec_survey.proofs.TakingRight.{first-apart, right-taken}
use Rattle.p21_spec_survey.proofs.WholeFronts.{whole-goes_on}
use Rattle.p21_spec_survey.proofs.laws.taking_laws.Goals as goal

pub returns : goal.returns
returns c = record { goes_on = whole-goes_on; apart = first-apart; taken = right-taken }
