use Rattle.std.proofs.Common.{◌≡◌, List, Some, ap, inl, inr, slice_get, subst, sym, ◌∙◌}
use Rattle.p21_spec_exchange.specs.DataSection.{Heading}
use Rattle.p21_stream_kept.proofs.SectionNames.{alike-numbers}
use Rattle.p21_stream_kept.specs.Sections.{headings_of}
use Rattle.p21_stream_kept.proofs.sections.Sections.begin_alike.Goals as goal

pub returns-else-is_unnamed_at : goal.returns-else-is_unnamed_at
returns-else-is_unnamed_at c = λ own its at there. (
  λ passes. let fails = c.if-is_unnamed_at.false in cc,
  λ same.
      let own_at = subst (λ (hs : List Heading). slice_get hs c.args.number ≡ Some own) (sym c.self.view_is) at in
      let its_at = subst (λ (hs : List Heading). slice_get hs c.args.other ≡ Some own) (sym c.self.view_is)
      (there ∙ ap (λ (h : Heading). Some h) (sym same)) in
      elim (alike-numbers c.self.inside.numbers (headings_of c.self.inside.all.items) c.self.invariant c.args.number c.args.other own own_at
      its_at) [
        | inl unnamed_ ↦ (c.is_unnamed_at.ensures own at).1 unnamed_
        | inr equal ↦ absurd (c.if-number-other.false equal)
      ],
)
