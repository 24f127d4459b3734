use Rattle.std.proofs.Common.{[], List, ℕ, ap, sym, ◌∙◌, get_or, arith}
use Rattle.p21_stream_output.proofs.Reading.{length-section, section-at}
use Rattle.p21_stream_output.proofs.cursor.Parts.line_at.Goals as goal

pub section_line-requires-clause-line : goal.section_line-requires-clause-line
section_line-requires-clause-line c =
    omega (
      arith,
      c.requires.line,
      length-section c.args.self.now _ _ c.self.inside.sections.now c.args.part c.index-self-part.result
          (sym c.self.view_is) (omega (arith, c.if-part-eq0.false)) (omega (arith, c.if-part-self.false)),
    )

pub returns : goal.returns
returns c =
    c.section_line.ensures
    ∙ ap (λ (lines : List (List ℕ)). get_or lines c.args.line [])
    (sym (section-at c.args.self.now _ _ c.self.inside.sections.now c.args.part c.index-self-part.result (sym c.self.view_is)
    (omega (arith, c.if-part-eq0.false)) (omega (arith, c.if-part-self.false))))
