use Rattle.std.proofs.Common.{drop, length}
use Rattle.p21_stream_survey.proofs.Feeding.{left_to_do}
use Rattle.p21_stream_survey.proofs.LastBytes.{IsAlongLast}
use Rattle.p21_stream_survey.proofs.survey.Survey.feed_unended.Given as goal

abbrev pub invariant-loop-at : goal.invariant-loop-at
invariant-loop-at l = record { along : IsAlongLast l.initial.self l.bytes l.self (drop l.at l.bytes) }

abbrev pub decreases-loop-at : goal.decreases-loop-at
decreases-loop-at l = left_to_do l.self (length (drop l.at l.bytes))
