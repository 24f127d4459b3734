-- The laws, from the theorems.
use Rattle.p21_spec_laws.proofs.records.line_laws.Goals as goal
use Rattle.p21_spec_laws.proofs.GraphicTexts.{lines-graphic}

pub returns : goal.returns
returns c = record { are_graphic = lines-graphic }
