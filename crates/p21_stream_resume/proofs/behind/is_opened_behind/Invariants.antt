use Rattle.std.proofs.Common.{◌≤◌, length}
use Rattle.p21_stream_resume.proofs.LastBytes.{IsSameBehind}
use Rattle.p21_stream_resume.proofs.behind.is_opened_behind.Given as goal

abbrev pub invariant-loop-count : goal.invariant-loop-count
invariant-loop-count l = (l.count ≤ length l.piece) × IsSameBehind l.piece l.count

abbrev pub decreases-loop-count : goal.decreases-loop-count
decreases-loop-count l = l.count
