-- The law, from the theorem.
use Rattle.p21_spec_laws.proofs.records.schema_laws.Goals as goal
use Rattle.p21_spec_schema.proofs.DeclaredSchemas.{declared-well_formed}

pub returns : goal.returns
returns c = record { well_formed = declared-well_formed }
