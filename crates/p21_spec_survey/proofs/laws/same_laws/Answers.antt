-- The laws, from the theorems.
use Rattle.p21_spec_survey.proofs.laws.same_laws.Goals as goal
use Rattle.p21_spec_survey.proofs.Alike.{gap-same, nothing-same, statements-same}

pub returns : goal.returns
returns c = record { nothing = nothing-same; statements = statements-same; gap = gap-same }
