use Rattle.std.proofs.Common.{◌≡◌, ◌+◌, ◌++◌, ◌∷◌, [], ℕ, List, Some, refl, slice_get, subst, sym, take}
use Rattle.std.specs.List.{AllZip, AllByRecursion as Each}
use Rattle.std.specs.Prelude.{Contains}
use Rattle.p21_spec_basics.proofs.Members.{Each-at}
use Rattle.p21_spec_exchange.specs.DataSection.{Heading}
use Rattle.p21_stream_kept.proofs.SectionNames.{heading-at, headings-more}
use Rattle.p21_stream_kept.proofs.Zipping.{AllZip-more}
use Rattle.p21_stream_kept.specs.Sections.{HaveNumbers, heading_in, headings_of}
use Rattle.p21_stream_kept.proofs.sections.Sections.numbers_of.Goals as goal

pub loop-section-preserved : goal.loop-section-preserved
loop-section-preserved c =
    let own = c.args.self.now in
    let x = c.section-item.result in
    let R = λ (h : Heading) (n : ℕ). slice_get own n ≡ Some h in
    subst (HaveNumbers own (headings_of (take (c.loop-section.section-index + 1) c.items-section-items.result.now)))
    (sym c.in_ok-push.ensures.items)
    (subst (λ (hs : List Heading). AllZip R hs (c.loop-section.numbers.items ++ c.in-Some.number ∷ []))
    (sym (headings-more c.items-section-items.result.now c.loop-section.section-index x c.section-item.is c.loop-section-test.true))
    (AllZip-more R (headings_of (take c.loop-section.section-index c.items-section-items.result.now)) c.loop-section.numbers.items
    (heading_in x.part) c.in-Some.number c.loop-section.invariant c.in-Some.ensures.some))

pub returns-in_default-clause-none : goal.returns-in_default-clause-none
returns-in_default-clause-none c = λ none each.
    let items = c.items-section-items.result.now in
    let x = c.section-item.result in
    let own = c.args.self.now in
    let here = heading-at items c.loop-section.section-index x c.section-item.is c.loop-section-test.true in
    c.in_default.ensures.none refl (Each-at (Contains own) (headings_of items) c.loop-section.section-index (heading_in x.part)
    (subst (Each (Contains own)) (sym c.items-section-items.ensures) each) here)
