use Rattle.std.proofs.Common.{◌∙◌, List, ℕ, inl, subst, sym}
use Rattle.p21_spec_file.specs.Accepted.{IsAccepted}
use Rattle.p21_spec_numbering.specs.Claim.{IsNumberedFile}
use Rattle.p21_spec_numbering.specs.Laws.{ranking_of}
use Rattle.p21_numbered_file.specs.Numbering.{HasNone}
use Rattle.p21_stream.proofs.Canonicals.{canonical-of_read}
use Rattle.p21_stream_numbered.proofs.Sources.{counted-apart, none-numbered, text-accepted}
use Rattle.p21_stream_output.specs.Output.{output_text}
use Rattle.p21_stream_numbered.proofs.counting.count_numbered.Goals as goal

pub returns-in-Err-clause-err : goal.returns-in-Err-clause-err
returns-in-Err-clause-err g c = inl c.in-Err.ensures.err

pub returns-in-Err-whole_text-clause-err : goal.returns-in-Err-whole_text-clause-err
returns-in-Err-whole_text-clause-err g c = inl (rw c.in-Err-whole_text.ensures.err tt)

pub returns-in-Err-whole_text-clause-failed : goal.returns-in-Err-whole_text-clause-failed
returns-in-Err-whole_text-clause-failed g c = rw c.in-Err-whole_text.ensures.err c.in-Ok.ensures.read

pub numbered_text-requires : goal.numbered_text-requires
numbered_text-requires g c =
    let A : List ℕ → Type 0 = λ bytes. IsAccepted c.args.schema.now c.args.limits bytes in
    let canonical = canonical-of_read _ c.headline.ensures.formed _ c.headline.ensures.limits _ _ c.in-Ok.accepted c.in-Ok.ensures.ok in
    subst A (sym (c.deref-2.ensures.value ∙ c.in-Ok-whole_text.ensures.ok))
    (text-accepted c.args.schema.now c.headline.ensures.formed c.args.limits _ _ (output_text c.in-Ok.accepted) canonical)

pub returns-in-Ok-numbered_text-clause-ok : goal.returns-in-Ok-numbered_text-clause-ok
returns-in-Ok-numbered_text-clause-ok g c =
    let s = c.args.schema.now in
    let N : List ℕ → Type 0 = λ bytes. IsNumberedFile s c.args.limits (ranking_of s) bytes (output_text c.in-Ok-numbered_text.field-0) in
    counted-apart s c.headline.ensures.formed c.args.limits c.headline.ensures.limits _ _ c.in-Ok.accepted c.counted_of-counted.result
    c.in-Ok-numbered_text.field-0 c.in-Ok.ensures.ok c.counted_of-counted.ensures.instances c.counted_of-counted.ensures.bytes
    (subst N (c.deref-2.ensures.value ∙ c.in-Ok-whole_text.ensures.ok) c.in-Ok-numbered_text.ensures)

pub returns-clause-err : goal.returns-clause-err
returns-clause-err g c =
    let s = c.args.schema.now in
    let N : List ℕ → Type 0 = λ bytes. HasNone s c.args.limits bytes c.in-Err-numbered_text.fault in
    let canonical = canonical-of_read s c.headline.ensures.formed c.args.limits c.headline.ensures.limits _ _ c.in-Ok.accepted
    c.in-Ok.ensures.ok in
    none-numbered s c.headline.ensures.formed c.args.limits _ _ (output_text c.in-Ok.accepted) c.in-Err-numbered_text.fault c.refused.result
    canonical
    (subst N (c.deref-2.ensures.value ∙ c.in-Ok-whole_text.ensures.ok) c.in-Err-numbered_text.ensures) c.refused.ensures
