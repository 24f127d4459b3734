use Rattle.std.proofs.Common.{◌≤◌, ◌-◌}
use Rattle.p21_stream_resume.proofs.Digits.{IsLeft}
use Rattle.p21_stream_resume.proofs.signpost.Numeral.digit.Given as goal

abbrev pub invariant-loop-dropped : goal.invariant-loop-dropped
invariant-loop-dropped l = (l.dropped ≤ l.behind) × IsLeft l.self.count l.self.value l.dropped l.left

abbrev pub decreases-loop-dropped : goal.decreases-loop-dropped
decreases-loop-dropped l = l.behind - l.dropped
