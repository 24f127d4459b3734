use Rattle.std.proofs.Common.{sym, arith}
use Rattle.p21_stream_output.proofs.Reading.{lines-some}
use Rattle.p21_stream_output.proofs.cursor.Parts.last.Goals as goal

pub returns-clause-lines : goal.returns-clause-lines
returns-clause-lines c part low = lines-some c.args.self.now _ _ c.self.inside.sections.now part (sym c.self.view_is) (omega (arith, low))
