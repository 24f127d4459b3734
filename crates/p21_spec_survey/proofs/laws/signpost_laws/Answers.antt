-- The laws, from the theorems.
use Rattle.p21_spec_survey.proofs.laws.signpost_laws.Goals as goal
use Rattle.p21_spec_survey.proofs.Signposts.{first-at_one_place, goes_by-one_place}

pub returns : goal.returns
returns c = record { first = first-at_one_place; goes_by = goes_by-one_place }
