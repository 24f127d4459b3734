use Rattle.std.proofs.Common.{List, ℕ, inl, inr, refl, sym, subst, ◌∙◌}
use Rattle.p21_spec_basics.specs.Limits.{Limits, usual}
use Rattle.p21_spec_file.specs.Accepted.{IsAccepted}
use Rattle.p21_spec_numbering.specs.Claim.{IsNumberedFile}
use Rattle.p21_spec_numbering.specs.Laws.{ranking_of}
use Rattle.p21_numbered_file.specs.Numbering.{HasNone}
use Rattle.p21_stream_output.specs.Output.{output_text}
use Rattle.p21_c.proofs.Numbering.{source-none, source-numbered}
use Rattle.p21_c.proofs.numbered.numbered_under.Goals as goal

pub numbered_text-requires : goal.numbered_text-requires
numbered_text-requires c =
    let A : List ℕ → Type 0 = λ bytes. IsAccepted c.args.schema.now usual bytes in
    let L : Limits → Type 0 = λ limits. IsAccepted c.args.schema.now limits c.deref-2.result.now in
    subst L (sym c.usual.ensures) (subst A (sym c.deref-2.ensures.value) c.in-Ok.ensures.ok.is_accepted)

pub returns-in-Ok-numbered_text : goal.returns-in-Ok-numbered_text
returns-in-Ok-numbered_text c =
    let s = c.args.schema.now in
    let text = output_text c.in-Ok-numbered_text.output in
    let L : Limits → Type 0 = λ limits. IsNumberedFile s limits (ranking_of s) c.deref-2.result.now text in
    let N : List ℕ → Type 0 = λ bytes. IsNumberedFile s usual (ranking_of s) bytes text in
    let numbered = subst N c.deref-2.ensures.value (subst L c.usual.ensures c.in-Ok-numbered_text.ensures) in (
      c.numbering_claim.ensures.claim,
      inl (
        c.in-Ok-numbered_text.output,
        source-numbered s c.numbering_claim.ensures.formed c.args.file.now
            c.in-Ok.text.items text c.in-Ok.ensures.ok numbered,
        c.held.ensures,
      ),
    )

pub returns : goal.returns
returns c =
    let s = c.args.schema.now in
    let fault = c.in-Err-numbered_text.fault in
    let L : Limits → Type 0 = λ limits. HasNone s limits c.deref-2.result.now fault in
    let N : List ℕ → Type 0 = λ bytes. HasNone s usual bytes fault in
    let none = subst N c.deref-2.ensures.value (subst L c.usual.ensures c.in-Err-numbered_text.ensures) in (
      c.numbering_claim.ensures.claim,
      inr (inr (
        fault,
        c.statement_behind-statement.result,
        source-none s c.numbering_claim.ensures.formed
            c.args.file.now c.in-Ok.text.items fault c.in-Ok.ensures.ok none,
        c.placeless.ensures ∙ c.untold.ensures,
        refl,
      )),
    )
