use Rattle.std.proofs.Common.{take}
use Rattle.std.specs.List.{AllZip}
use Rattle.p21_stream_kept.specs.Inside.{references_of, stored_in}
use Rattle.p21_stream_kept.specs.Judgements.{AnswersNeedOf, AreRight}
use Rattle.p21_stream_kept.proofs.judgements.refusals_of.Given as goal

-- the references so far are answered
abbrev pub invariant-loop-reference : goal.invariant-loop-reference
invariant-loop-reference l = record {
  answered : AllZip (AnswersNeedOf l.schema (stored_in l.stored)) (references_of (take l.reference-index l.waiting)) l.refusals.items;
  right : AreRight l.schema l.stored.memberships l.judgements.all.items;
}
