use Rattle.std.proofs.Common.{List, arith, ap, subst, ◌∙◌}
use Rattle.std.specs.List.{Contains}
use Rattle.p21_spec_exchange.specs.DataSection.{Heading, section_names}
use Rattle.p21_stream_syntax.proofs.SectionNames.{section-named, section-unnamed}
use Rattle.p21_stream_syntax.specs.Sections.{names_in}
use Rattle.p21_stream_syntax.proofs.sections.Sections.add.Goals as goal

pub invariant_of-self-in_default-name : goal.invariant_of-self-in_default-name
invariant_of-self-in_default-name c = section-unnamed _ _ _ _ c.in-Ok.ensures.items
    (c.in_ok-name.ensures ∙ ap names_in c.in_default-name.is) c.self.invariant

pub invariant_of-self-in-Ok-insert : goal.invariant_of-self-in-Ok-insert
invariant_of-self-in-Ok-insert c =
    section-named _ _ _ _ _ c.in-Some.name c.len-number.result c.in-Ok.ensures.items (c.in_ok-name.ensures ∙ ap names_in c.in-Some.is)
    (λ name own there. c.requires name own (subst (λ (hs : List Heading). Contains (section_names hs) name) c.self.view_is there))
    (omega arith) c.in-Ok-insert.ensures.updates c.self.invariant
