use Rattle.std.proofs.Common.{List, ◌≤◌, drop, length}
use Rattle.std.specs.List.{AllZip}
use Rattle.p21_spec_laws.specs.Stored.{StoredEntry}
use Rattle.p21_spec_schema.specs.Schema.{Schema}
use Rattle.p21_stream_kept.specs.Inside.{references_of}
use Rattle.p21_stream_kept.specs.Judgements.{AnswersNeedOf}
use Rattle.p21_stream_survey.proofs.Told.{AddsSoFar}
use Rattle.p21_stream_survey.specs.Silence.{silence_of}
use Rattle.p21_stream_survey.proofs.references.list_each.Given as goal

-- the refusals of the references before this one are listed
abbrev pub invariant-loop-index : goal.invariant-loop-index
invariant-loop-index l = record {
  adds : (s : Schema) (stored : List StoredEntry) → AllZip (AnswersNeedOf s stored) (references_of l.waiting) l.found
      → AddsSoFar s stored (silence_of l.silence) (references_of l.waiting) l.fn.refusals.items l.refusals.items
      (references_of (drop l.index l.waiting));
  counted : length l.fn.refusals.items ≤ l.most → length l.refusals.items ≤ l.most;
}
