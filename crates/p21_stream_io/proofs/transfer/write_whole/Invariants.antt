use Rattle.std.proofs.Common.{◌≡◌, length}
use Rattle.p21_stream_io.specs.Transfer.{AppendsAllBut}
use Rattle.p21_stream_io.proofs.transfer.write_whole.Given as goal

-- what was written so far, and the rest; no write failed
abbrev pub invariant-loop-rest : goal.invariant-loop-rest
invariant-loop-rest g l =
    AppendsAllBut (g.W.Write.contents l.initial.writer.inner) (g.W.Write.contents l.writer.inner) l.bytes l.rest
    × (l.writer.failures ≡ l.initial.writer.failures)

abbrev pub decreases-loop-rest : goal.decreases-loop-rest
decreases-loop-rest g l = length l.rest
