-- The laws, from the theorems.
use Rattle.p21_spec_laws.proofs.sessions.output_laws.Goals as goal
use Rattle.p21_spec_laws.proofs.Output.{blocks-by_sections, keeps-names_differ, lines-by_section}

pub returns : goal.returns
returns c = record { differ = keeps-names_differ; lines = lines-by_section; blocks = blocks-by_sections }
