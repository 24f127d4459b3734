use Rattle.std.proofs.Common.{Err, List, Ok, ℕ, inl, inr, refl, sym, subst, ◌∙◌}
use Rattle.p21_spec_basics.specs.Limits.{Limits, usual}
use Rattle.p21_spec_file.specs.Accepted.{IsAccepted}
use Rattle.p21_numbered_file.specs.Comparing.{TellsTexts}
use Rattle.p21_c.proofs.Numbering.{second-refused, source-accepted, sources-told, sources-untold}
use Rattle.p21_c.proofs.numbered.compare_under.Goals as goal

pub returns-in-Err-canonical_text : goal.returns-in-Err-canonical_text
returns-in-Err-canonical_text c =
    second-refused c.args.schema.now c.numbering_claim.ensures.formed c.args.first.now c.args.second.now c.in-Ok.text.items
    c.in-Ok.ensures.ok c.numbering_claim.ensures.claim c.in-Err-canonical_text.placed.answer c.in-Err-canonical_text.ensures.err

pub are_same_but_for_names-requires-clause-one : goal.are_same_but_for_names-requires-clause-one
are_same_but_for_names-requires-clause-one c =
    let A : List ℕ → Type 0 = λ bytes. IsAccepted c.args.schema.now usual bytes in
    let L : Limits → Type 0 = λ limits. IsAccepted c.args.schema.now limits c.deref.result.now in
    subst L (sym c.usual.ensures) (subst A (sym c.deref.ensures.value) c.in-Ok.ensures.ok.is_accepted)

pub are_same_but_for_names-requires-clause-other : goal.are_same_but_for_names-requires-clause-other
are_same_but_for_names-requires-clause-other c =
    let A : List ℕ → Type 0 = λ bytes. IsAccepted c.args.schema.now usual bytes in
    let L : Limits → Type 0 = λ limits. IsAccepted c.args.schema.now limits c.deref-2.result.now in
    subst L (sym c.usual.ensures) (subst A (sym c.deref-2.ensures.value) c.in-Ok-canonical_text.ensures.ok.is_accepted)

pub returns-in-Ok-are_same_but_for_names : goal.returns-in-Ok-are_same_but_for_names
returns-in-Ok-are_same_but_for_names c =
    let s = c.args.schema.now in
    let same = c.in-Ok-are_same_but_for_names.same in
    let formed = c.numbering_claim.ensures.formed in
    let L : Limits → Type 0 = λ limits. TellsTexts s limits c.deref.result.now c.deref-2.result.now (Ok same) in
    let A : List ℕ → Type 0 = λ one. TellsTexts s usual one c.deref-2.result.now (Ok same) in
    let B : List ℕ → Type 0 = λ other. TellsTexts s usual c.in-Ok.text.items other (Ok same) in
    let tells = subst B c.deref-2.ensures.value (subst A c.deref.ensures.value
    (subst L c.usual.ensures c.in-Ok-are_same_but_for_names.ensures)) in (
      c.numbering_claim.ensures.claim,
      inl (
        same,
        refl,
        source-accepted s formed c.args.first.now c.in-Ok.text.items c.in-Ok.ensures.ok,
        source-accepted s formed c.args.second.now c.in-Ok-canonical_text.text.items c.in-Ok-canonical_text.ensures.ok,
        sources-told s formed c.args.first.now c.args.second.now c.in-Ok.text.items c.in-Ok-canonical_text.text.items c.in-Ok.ensures.ok
            c.in-Ok-canonical_text.ensures.ok same tells,
        c.placeless.ensures ∙ c.done.ensures,
      ),
    )

pub returns : goal.returns
returns c =
    let s = c.args.schema.now in
    let fault = c.in-Err-are_same_but_for_names.fault in
    let L : Limits → Type 0 = λ limits. TellsTexts s limits c.deref.result.now c.deref-2.result.now (Err fault) in
    let A : List ℕ → Type 0 = λ one. TellsTexts s usual one c.deref-2.result.now (Err fault) in
    let B : List ℕ → Type 0 = λ other. TellsTexts s usual c.in-Ok.text.items other (Err fault) in
    let tells = subst B c.deref-2.ensures.value (subst A c.deref.ensures.value
    (subst L c.usual.ensures c.in-Err-are_same_but_for_names.ensures)) in (
      c.numbering_claim.ensures.claim,
      inr
          (
          inr
          (
          inr (
            fault,
            c.statement_behind.result,
            sources-untold s c.numbering_claim.ensures.formed c.args.first.now c.args.second.now c.in-Ok.text.items
                c.in-Ok-canonical_text.text.items c.in-Ok.ensures.ok c.in-Ok-canonical_text.ensures.ok fault tells,
            c.placeless-in-Err-are_same_but_for_names.ensures ∙ c.untold.ensures,
            refl,
          )
          )
          ),
    )
