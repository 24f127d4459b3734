use Rattle.std.proofs.Common.{◌-◌, drop, length}
use Rattle.p21_stream_survey.proofs.Feeding.{IsOnWay, left_to_do}
use Rattle.p21_stream_survey.proofs.survey.Survey.feed_again.Given as goal

abbrev pub invariant-loop-at : goal.invariant-loop-at
invariant-loop-at l = record { way : IsOnWay l.initial.self l.initial.bytes.items l.self (drop l.at l.bytes.items) }

abbrev pub decreases-loop-at : goal.decreases-loop-at
decreases-loop-at l = left_to_do l.self (length l.bytes.items - l.at)
