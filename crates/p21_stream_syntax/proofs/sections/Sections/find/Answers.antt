use Rattle.std.proofs.Common.{List, ap, subst, ◌∙◌}
use Rattle.p21_spec_exchange.specs.DataSection.{Heading}
use Rattle.p21_stream_syntax.proofs.SectionNames.{Finds, FindsEach, finds, finds-each}
use Rattle.p21_stream_syntax.specs.Sections.{headings_of, number_of}
use Rattle.p21_stream_syntax.proofs.sections.Sections.find.Goals as goal

pub returns-clause-found : goal.returns-clause-found
returns-clause-found c = subst (λ (hs : List Heading). Finds hs c.args.name.now c.copied.result) c.self.view_is
    (finds c.self.inside.numbers (headings_of c.self.inside.all.items) c.self.invariant c.args.name.now c.copied.result
    (c.copied.ensures ∙ c.get.ensures.value ∙ ap (number_of c.self.inside.numbers) c.chars.ensures))

pub returns-clause-kept : goal.returns-clause-kept
returns-clause-kept c = subst (λ (hs : List Heading). FindsEach hs c.args.name.now c.copied.result) c.self.view_is
    (finds-each c.self.inside.numbers (headings_of c.self.inside.all.items) c.self.invariant c.args.name.now c.copied.result
    (c.copied.ensures ∙ c.get.ensures.value ∙ ap (number_of c.self.inside.numbers) c.chars.ensures))
