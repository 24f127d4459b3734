use Rattle.std.proofs.Common.{◌≡◌, ◌≤◌, ◌+◌, ◌-◌}
use Rattle.p21_stream.specs.SurveyFeeding.{IsSurveyedFrom}
use Rattle.p21_stream_survey.specs.Course.{AsksTheSame}
use Rattle.p21_stream.proofs.listing.feed_all.Given as goal

abbrev pub invariant-loop-limits : goal.invariant-loop-limits
invariant-loop-limits g l = record {
  from : IsSurveyedFrom (g.R.Read.remaining l.initial.reader.inner) (g.R.Read.remaining l.reader.inner) l.survey l.taken;
  same : AsksTheSame l.initial.survey l.survey;
  within : l.taken ≤ l.limits.file_source;
  moved : l.reader.moved ≤ l.initial.reader.moved + l.taken;
  failures : l.reader.failures ≡ l.initial.reader.failures;
}

abbrev pub decreases-loop-limits : goal.decreases-loop-limits
decreases-loop-limits g l = l.limits.file_source - l.taken
