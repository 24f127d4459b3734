use Rattle.p21_stream_resume.proofs.Standing.{IsBegun}
use Rattle.p21_stream_resume.proofs.front.signpost_at_front.Given as goal

abbrev pub invariant-loop-at : goal.invariant-loop-at
invariant-loop-at l = IsBegun l.bytes l.at l.mode
