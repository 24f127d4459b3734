use Rattle.std.proofs.Common.{sym, arith}
use Rattle.p21_stream_output.proofs.Reading.{front-of-end}
use Rattle.p21_stream_output.proofs.cursor.Line.behind.Goals as goal

pub returns-then-behind-self-clause-front : goal.returns-then-behind-self-clause-front
returns-then-behind-self-clause-front c = front-of-end c.self.inside.text.now c.self.inside.end.now c.args.self.now c.args.byte
    (sym c.self.view_is) (omega (arith, c.if-byte-self.false))
