-- The laws, from the theorems.
use Rattle.p21_spec_syntax.proofs.laws.reading_laws.Goals as goal
use Rattle.p21_spec_syntax.proofs.IllFormed.{one-file}
use Rattle.p21_spec_syntax.proofs.Meaningful.{meaningful-well_formed}

pub returns : goal.returns
returns c = record { one_file = one-file; of_schema = meaningful-well_formed }
