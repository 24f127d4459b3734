use Rattle.std.proofs.Common.{◌≡◌, ℕ, Some, arith, inl, inr, slice_get, subst, sym, ◌∙◌}
use Rattle.std.proofs.lemmas.Bool.{cases_lt}
use Rattle.std.proofs.lemmas.List.{length-map}
use Rattle.std.proofs.lemmas.Option.{same_Some, slice_get_within}
use Rattle.p21_spec_basics.proofs.Members.{Contains-at}
use Rattle.p21_spec_exchange.specs.DataSection.{unnamed}
use Rattle.p21_stream_kept.proofs.SectionNames.{heading-at}
use Rattle.p21_stream_kept.specs.Sections.{heading_in, headings_of}
use Rattle.p21_stream_kept.specs.declared.sections.Section.{Section}
use Rattle.p21_stream_kept.proofs.sections.unnamed_number.Goals as goal

pub loop-number-preserved : goal.loop-number-preserved
loop-number-preserved c k below at = elim (cases_lt k c.loop-number.number) [
  | inl low ↦ c.loop-number.invariant k low at
  | inr h ↦
      let sections = c.args.sections.now in
      let x = c.index-sections-number.result in
      let same : k ≡ c.loop-number.number = omega (arith, h, below) in
      let here = subst (λ (n : ℕ). slice_get (headings_of sections) n ≡ Some unnamed) same at in
      let is : heading_in x.part ≡ unnamed = same_Some (heading_in x.part) unnamed
      (sym (heading-at sections c.loop-number.number x c.index-sections-number.is c.loop-number-test.true) ∙ here) in
      let passes = c.is_unnamed.ensures.1 is in
      let fails = c.if-is_unnamed.false in
      cc
]

pub returns-clause-none : goal.returns-clause-none
returns-clause-none c = λ none among.
    let sections = c.args.sections.now in
    let (k, at) = Contains-at (headings_of sections) unnamed among in
    let within = slice_get_within (headings_of sections) k unnamed at in
    let size = length-map sections (λ (x : Section). heading_in x.part) in
    c.loop-number.invariant k (omega (arith, within, size, c.loop-number-test.false)) at
