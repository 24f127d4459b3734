use Rattle.std.proofs.Common.{List, ℕ, inl, subst, sym}
use Rattle.p21_spec_file.specs.Accepted.{IsAccepted}
use Rattle.p21_spec_numbering.specs.Claim.{IsNumberedFile}
use Rattle.p21_spec_numbering.specs.Laws.{ranking_of}
use Rattle.p21_numbered_file.specs.Numbering.{HasNone}
use Rattle.p21_stream_numbered.proofs.Sources.{file-numbered, none-numbered, text-accepted}
use Rattle.p21_stream_output.specs.Output.{output_text}
use Rattle.p21_stream_numbered.proofs.numbering.numbered.Goals as goal

pub returns-in-Err-clause-err : goal.returns-in-Err-clause-err
returns-in-Err-clause-err g c = inl c.in-Err.ensures.err

pub numbered_text-requires : goal.numbered_text-requires
numbered_text-requires g c =
    let A : List ℕ → Type 0 = λ bytes. IsAccepted c.args.schema.now c.args.limits bytes in
    subst A (sym c.deref-2.ensures.value) (text-accepted c.args.schema.now c.numbering_headline.ensures.formed c.args.limits _ _
    c.in-Ok.text.items c.in-Ok.ensures.ok)

pub returns-in-Ok-numbered_text-clause-ok : goal.returns-in-Ok-numbered_text-clause-ok
returns-in-Ok-numbered_text-clause-ok g c =
    let s = c.args.schema.now in
    let N : List ℕ → Type 0 = λ bytes. IsNumberedFile s c.args.limits (ranking_of s) bytes (output_text c.in-Ok-numbered_text.file) in
    file-numbered s c.numbering_headline.ensures.formed c.args.limits _ _ c.in-Ok.text.items c.in-Ok-numbered_text.file c.in-Ok.ensures.ok
    (subst N c.deref-2.ensures.value c.in-Ok-numbered_text.ensures)

pub returns-clause-err : goal.returns-clause-err
returns-clause-err g c =
    let s = c.args.schema.now in
    let N : List ℕ → Type 0 = λ bytes. HasNone s c.args.limits bytes c.in-Err-numbered_text.fault in
    none-numbered s c.numbering_headline.ensures.formed c.args.limits _ _ c.in-Ok.text.items c.in-Err-numbered_text.fault c.refused.result
    c.in-Ok.ensures.ok (subst N c.deref-2.ensures.value c.in-Err-numbered_text.ensures) c.refused.ensures
