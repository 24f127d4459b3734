use Rattle.std.proofs.Common.{◌-◌}
use Rattle.p21_stream_survey.proofs.LastStage.{InLoop}
use Rattle.p21_stream_survey.specs.Course.{listed_of}
use Rattle.p21_stream_survey.proofs.survey.Survey.finish_statements.Given as goal

abbrev pub invariant-loop-extent : goal.invariant-loop-extent
invariant-loop-extent l = InLoop l.initial.self l.self

-- each round lists one refusal more, and fewer than are asked for are listed
abbrev pub decreases-loop-extent : goal.decreases-loop-extent
decreases-loop-extent l = l.self.most - listed_of l.self
