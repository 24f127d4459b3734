-- The laws, from the theorems.
use Rattle.p21_spec_laws.proofs.files.headline.Goals as goal
use Rattle.p21_spec_laws.proofs.FileTheorems.{headline}

pub returns : goal.returns
returns c = record { claim = headline }
