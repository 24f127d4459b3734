-- The laws, from the theorems.
use Rattle.p21_spec_survey.proofs.laws.reading_laws.Goals as goal
use Rattle.p21_spec_survey.proofs.Readings.{read-in_front, unlisted-taken}

pub returns : goal.returns
returns c = record { in_front = read-in_front; unlisted = unlisted-taken }
