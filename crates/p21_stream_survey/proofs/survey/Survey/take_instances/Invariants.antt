use Rattle.std.proofs.Common.{◌-◌, length}
use Rattle.p21_stream_survey.proofs.Taken.{AreTaken}
use Rattle.p21_stream_survey.proofs.survey.Survey.take_instances.Given as goal

-- the instances so far are taken
abbrev pub invariant-loop-self : goal.invariant-loop-self
invariant-loop-self l = record { taken : AreTaken l.fn.self l.rest l.self l.next }

-- each instance has bytes
abbrev pub decreases-loop-self : goal.decreases-loop-self
decreases-loop-self l = length l.rest - l.next.count
