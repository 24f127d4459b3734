use Rattle.std.proofs.Common.{◌+◌, ◌++◌, ◌∷◌, [], List, Option, subst, sym, take}
use Rattle.std.specs.List.{AllZip}
use Rattle.p21_spec_laws.specs.Waiting.{Reference}
use Rattle.p21_stream_kept.proofs.Unserved.{references-more}
use Rattle.p21_stream_kept.proofs.Zipping.{AllZip-more}
use Rattle.p21_stream_kept.specs.Inside.{reference_of, references_of, stored_in}
use Rattle.p21_stream_kept.specs.Judgements.{AnswersNeedOf}
use Rattle.p21_stream_statements.specs.declared.fault.Fault.{Fault}
use Rattle.p21_stream_kept.proofs.judgements.refusals_of.Goals as goal

pub loop-reference-preserved : goal.loop-reference-preserved
loop-reference-preserved c =
    let R = AnswersNeedOf c.args.schema.now (stored_in c.args.stored.now) in
    let item = c.reference-item.result in
    let Q : List (Option Fault) → Type 0 = λ found. AllZip R
    (references_of (take (c.loop-reference.reference-index + 1) c.args.waiting.now)) found in
    record {
      answered = subst Q (sym c.in_ok-push.ensures.items)
          (subst (λ (rs : List Reference). AllZip R rs (c.loop-reference.refusals.items ++ c.answer-refusal.result ∷ []))
          (sym (references-more c.args.waiting.now c.loop-reference.reference-index item c.reference-item.is
          c.loop-reference-test.true))
          (AllZip-more R (references_of (take c.loop-reference.reference-index c.args.waiting.now)) c.loop-reference.refusals.items
          (reference_of item) c.answer-refusal.result c.loop-reference.invariant.answered c.answer-refusal.ensures.answers));
      right = c.answer-refusal.ensures.right;
    }
