use Rattle.std.proofs.Common.{Err, Ok, List, ℕ, inl, inr, subst, sym, ◌∙◌}
use Rattle.std.proofs.KnownBytes.{Keeps-refl}
use Rattle.p21_numbered_file.specs.Comparing.{TellsTexts}
use Rattle.p21_stream_numbered.proofs.Sources.{files-told, files-untold, no-first_failure, no-second_failure, text-accepted}
use Rattle.p21_stream_numbered.proofs.comparing.same_but_for_names.Goals as goal

pub returns-in-Err-clause-err : goal.returns-in-Err-clause-err
returns-in-Err-clause-err g c = inl (c.in-Err.ensures.err, Keeps-refl _)

pub returns-in-Err-canonical_text-clause-err : goal.returns-in-Err-canonical_text-clause-err
returns-in-Err-canonical_text-clause-err g c = inl ((c.in-Ok.text.items, c.in-Ok.ensures.ok), c.in-Err-canonical_text.ensures.err)

pub are_same_but_for_names-requires-clause-one : goal.are_same_but_for_names-requires-clause-one
are_same_but_for_names-requires-clause-one g c =
    rw c.deref.ensures.value (text-accepted c.args.schema.now c.numbering_headline.ensures.formed c.args.limits _ _ c.in-Ok.text.items
    c.in-Ok.ensures.ok)

pub are_same_but_for_names-requires-clause-other : goal.are_same_but_for_names-requires-clause-other
are_same_but_for_names-requires-clause-other g c =
    rw c.deref-2.ensures.value (text-accepted c.args.schema.now c.numbering_headline.ensures.formed c.args.limits _ _
    c.in-Ok-canonical_text.text.items c.in-Ok-canonical_text.ensures.ok)

pub returns-in-Ok-are_same_but_for_names-clause-ok : goal.returns-in-Ok-are_same_but_for_names-clause-ok
returns-in-Ok-are_same_but_for_names-clause-ok g c =
    let A : List ℕ → Type 0 = λ a. TellsTexts c.args.schema.now c.args.limits a c.deref-2.result.now
    (Ok c.in-Ok-are_same_but_for_names.same) in
    let B : List ℕ → Type 0 = λ b. TellsTexts c.args.schema.now c.args.limits c.in-Ok.text.items b
    (Ok c.in-Ok-are_same_but_for_names.same) in
    let tells = subst B c.deref-2.ensures.value (subst A c.deref.ensures.value c.in-Ok-are_same_but_for_names.ensures) in
    files-told c.args.schema.now c.numbering_headline.ensures.formed c.args.limits _ _ _ _ c.in-Ok.text.items
    c.in-Ok-canonical_text.text.items c.in-Ok.ensures.ok c.in-Ok-canonical_text.ensures.ok c.in-Ok-are_same_but_for_names.same tells

pub returns-clause-err : goal.returns-clause-err
returns-clause-err g c =
    let A : List ℕ → Type 0 = λ a. TellsTexts c.args.schema.now c.args.limits a c.deref-2.result.now
    (Err c.in-Err-are_same_but_for_names.fault) in
    let B : List ℕ → Type 0 = λ b. TellsTexts c.args.schema.now c.args.limits c.in-Ok.text.items b
    (Err c.in-Err-are_same_but_for_names.fault) in
    let tells = subst B c.deref-2.ensures.value (subst A c.deref.ensures.value c.in-Err-are_same_but_for_names.ensures) in
    files-untold c.args.schema.now c.numbering_headline.ensures.formed c.args.limits _ _ _ _ c.in-Ok.text.items
    c.in-Ok-canonical_text.text.items c.in-Ok.ensures.ok c.in-Ok-canonical_text.ensures.ok c.in-Err-are_same_but_for_names.fault
    c.file_of-which.result c.refused.result tells c.file_of-which.ensures c.refused.ensures

pub returns-in-Err-canonical_text-clause-order : goal.returns-in-Err-canonical_text-clause-order
returns-in-Err-canonical_text-clause-order g c = inr (c.in-Ok.text.items, c.in-Ok.ensures.ok)

pub returns-in-Ok-are_same_but_for_names-clause-order : goal.returns-in-Ok-are_same_but_for_names-clause-order
returns-in-Ok-are_same_but_for_names-clause-order g c = inr (c.in-Ok.text.items, c.in-Ok.ensures.ok)

pub returns-clause-order : goal.returns-clause-order
returns-clause-order g c = inr (c.in-Ok.text.items, c.in-Ok.ensures.ok)

pub returns-clause-failed_first : goal.returns-clause-failed_first
returns-clause-failed_first g c = c.in-Ok.ensures.read
    ∙ sym (no-first_failure c.args.first.now.failures c.file_of-which.result c.in-Err-are_same_but_for_names.fault c.refused.result
    c.refused.ensures)

pub returns-clause-failed_second : goal.returns-clause-failed_second
returns-clause-failed_second g c = c.in-Ok-canonical_text.ensures.read
    ∙ sym (no-second_failure c.args.second.now.failures c.file_of-which.result c.in-Err-are_same_but_for_names.fault c.refused.result
    c.refused.ensures)
