use Rattle.std.proofs.Common.{length}
use Rattle.p21_stream_survey.proofs.Feeding.{IsOnWay, left_to_do}
use Rattle.p21_stream_survey.proofs.survey.Survey.feed.Given as goal

abbrev pub invariant-loop-self : goal.invariant-loop-self
invariant-loop-self l = record { way : IsOnWay l.initial.self l.piece l.self l.rest }

abbrev pub decreases-loop-self : goal.decreases-loop-self
decreases-loop-self l = left_to_do l.self (length l.rest)
