-- The laws, from the theorems.
use Rattle.p21_spec_survey.proofs.laws.kept_laws.Goals as goal
use Rattle.p21_spec_survey.proofs.Kept.{each-judged, given-begin, given-taken, kept-whole, names-differ}

pub returns : goal.returns
returns c = record { whole = kept-whole; begin = given-begin; taken = given-taken; judged = each-judged; names = names-differ }
