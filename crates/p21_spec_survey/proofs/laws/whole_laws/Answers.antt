-- The laws, from the theorems.
use Rattle.p21_spec_survey.proofs.laws.whole_laws.Goals as goal
use Rattle.p21_spec_survey.proofs.Alike.{begins_none-alike, begins_none_within-alike, behind-laid, gap-no_token, joined-laid, laid-alike, no_file-alike}

pub returns : goal.returns
returns c = record { behind = behind-laid; joined = joined-laid; gap = gap-no_token; alike = laid-alike; no_file = no_file-alike; begins_none = begins_none-alike; within = begins_none_within-alike }
