use Rattle.std.proofs.Common.{◌≤◌, drop, length}
use Rattle.p21_stream_survey.proofs.MissingTold.{AddsSoFar}
use Rattle.p21_stream_survey.specs.Silence.{silence_of}
use Rattle.p21_stream_syntax.specs.Given.{kept_of}
use Rattle.p21_stream_syntax.specs.Waiting.{claims_in}
use Rattle.p21_stream_survey.proofs.missing.list_missing.Given as goal

-- the refusals of the references before this one are listed
abbrev pub invariant-loop-index : goal.invariant-loop-index
invariant-loop-index l = record {
  adds : AddsSoFar (kept_of l.fn.given).names (silence_of l.fn.silence) (claims_in l.initial.waiting) l.fn.refusals.items l.refusals.items
      (claims_in (drop l.index l.initial.waiting));
  counted : length l.fn.refusals.items ≤ l.fn.most → length l.refusals.items ≤ l.fn.most;
}
