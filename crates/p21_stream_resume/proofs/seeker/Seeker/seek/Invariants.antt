use Rattle.std.proofs.Common.{take}
use Rattle.p21_stream_resume.specs.Seeking.{SeeksAlong}
use Rattle.p21_stream_resume.proofs.seeker.Seeker.seek.Given as goal

abbrev pub invariant-loop-place : goal.invariant-loop-place
invariant-loop-place l = SeeksAlong l.initial.self (take l.place l.piece) l.self
