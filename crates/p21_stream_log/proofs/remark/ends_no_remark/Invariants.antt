use Rattle.p21_stream_log.proofs.Boundless.{EndsNoneWithin}
use Rattle.p21_stream_log.proofs.remark.ends_no_remark.Given as goal

-- no remark ends in the bytes passed, of which there is one
abbrev pub invariant-loop-at : goal.invariant-loop-at
invariant-loop-at l = EndsNoneWithin l.at l.bytes
