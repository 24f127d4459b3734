use Rattle.std.proofs.Common.{◌≡◌, ◌≤◌, drop, length}
use Rattle.std.specs.List.{AllZip}
use Rattle.p21_spec_laws.specs.Keeping.{Kept}
use Rattle.p21_spec_schema.specs.Schema.{Schema}
use Rattle.p21_stream_kept.specs.Inside.{references_of}
use Rattle.p21_stream_kept.specs.Judgements.{AnswersNeedOf}
use Rattle.p21_stream_sieve.proofs.UnservedListing.{AddsSoFar}
use Rattle.p21_stream_sieve.proofs.unserved.list_each.Given as goal

-- the refusals of the references before this one are listed
abbrev pub invariant-loop-index : goal.invariant-loop-index
invariant-loop-index l = record {
  adds : (s : Schema) (kept : Kept) → references_of l.waiting ≡ kept.waiting
      → AllZip (AnswersNeedOf s kept.stored) (references_of l.waiting) l.found
      → AddsSoFar s kept l.names l.fn.refusals.items l.refusals.items (references_of (drop l.index l.waiting));
  counted : length l.fn.refusals.items ≤ l.most → length l.refusals.items ≤ l.most;
}
