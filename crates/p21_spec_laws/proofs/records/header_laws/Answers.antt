-- The laws, from the theorems.
use Rattle.p21_spec_laws.proofs.records.header_laws.Goals as goal
use Rattle.p21_spec_laws.proofs.HeaderOnce.{params-tell, lines-tell}

pub returns : goal.returns
returns c = record { texts_tell = params-tell; lines_tell = lines-tell }
