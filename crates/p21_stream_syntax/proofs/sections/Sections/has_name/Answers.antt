use Rattle.std.proofs.Common.{sym, ◌∙◌}
use Rattle.p21_stream_syntax.proofs.SectionNames.{has-name}
use Rattle.p21_stream_syntax.proofs.sections.Sections.has_name.Goals as goal

pub returns : goal.returns
returns c =
    let (to, from) = has-name c.args.self.now c.args.name.now c.find.result c.find.ensures.found c.find.ensures.kept in
    (λ there. to (sym c.is_some.ensures ∙ there), λ among. c.is_some.ensures ∙ from among)
