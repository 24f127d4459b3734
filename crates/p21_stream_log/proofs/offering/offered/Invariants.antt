use Rattle.std.proofs.Common.{take}
use Rattle.p21_stream_log.proofs.Offered.{HasNoSemicolon}
use Rattle.p21_stream_log.proofs.offering.offered.Given as goal

-- none of the bytes passed is a `;`
abbrev pub invariant-loop-count : goal.invariant-loop-count
invariant-loop-count l = HasNoSemicolon (take l.count l.piece)
