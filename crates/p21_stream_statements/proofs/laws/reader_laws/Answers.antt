-- The laws, from the theorems.
use Rattle.p21_stream_statements.proofs.Begun.{has-begun}
use Rattle.p21_stream_statements.proofs.InData.{in-data}
use Rattle.p21_stream_statements.proofs.laws.reader_laws.Goals as goal

pub returns : goal.returns
returns c = record { begun = has-begun; in_data = in-data }
