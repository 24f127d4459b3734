use Rattle.std.proofs.Common.{◌+◌, List, drop, ap, Some, None, subst, sym}
use Rattle.std.proofs.lemmas.List.{drop_all}
use Rattle.p21_spec_laws.specs.Waiting.{Reference}
use Rattle.p21_mapping_values.specs.TypedView.{need_view}
use Rattle.p21_stream_kept.proofs.Unserved.{references-from, unserved-behind, unserved-here}
use Rattle.p21_stream_kept.specs.Inside.{reference_of, references_of, stored_in}
use Rattle.p21_stream_kept.specs.Served.{AnswersUnserved}
use Rattle.p21_stream_kept.proofs.served.first_unserved.Goals as goal

pub returns-in-Some : goal.returns-in-Some
returns-in-Some c =
    let s = c.args.schema.now in
    let stored = stored_in c.args.stored.now in
    let item = c.reference-item.result in
    let P : List Reference → Type 0 = λ rs. AnswersUnserved s stored rs (Some (item.holder, c.in-Some.fault)) in
    c.loop-reference.invariant (Some (item.holder, c.in-Some.fault))
    (subst P (sym (references-from c.args.waiting.now c.loop-reference.reference-index item c.reference-item.is c.loop-reference-test.true))
    (unserved-here s stored item.holder (need_view item.need)
    (references_of (drop (c.loop-reference.reference-index + 1) c.args.waiting.now)) c.in-Some.fault c.in-Some.ensures))

pub loop-reference-preserved : goal.loop-reference-preserved
loop-reference-preserved c = λ result answers.
    let s = c.args.schema.now in
    let stored = stored_in c.args.stored.now in
    let item = c.reference-item.result in
    let P : List Reference → Type 0 = λ rs. AnswersUnserved s stored rs result in
    c.loop-reference.invariant result
    (subst P (sym (references-from c.args.waiting.now c.loop-reference.reference-index item c.reference-item.is c.loop-reference-test.true))
    (unserved-behind s stored (reference_of item) (references_of (drop (c.loop-reference.reference-index + 1) c.args.waiting.now))
    c.in_default.ensures result answers))

pub returns : goal.returns
returns c =
    let P : List Reference → Type 0 = λ rs. AnswersUnserved c.args.schema.now (stored_in c.args.stored.now) rs None in
    c.loop-reference.invariant None (subst P (sym (ap references_of (drop_all c.loop-reference.reference-index c.args.waiting.now
    c.loop-reference-test.false))) tt)
