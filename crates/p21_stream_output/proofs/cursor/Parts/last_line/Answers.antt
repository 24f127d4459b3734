use Rattle.std.proofs.Common.{List, ℕ, length, map, ap, sym, ◌∙◌, ◌+◌, arith}
use Rattle.std.proofs.lemmas.List.{length-map}
use Rattle.p21_stream_output.proofs.Reading.{end-at, length-section}
use Rattle.p21_stream_output.specs.Stored.{written_section}
use Rattle.p21_stream_output.proofs.cursor.Parts.last_line.Goals as goal

pub returns-then-part-self : goal.returns-then-part-self
returns-then-part-self c =
    let sections = c.self.inside.sections.now in
    ap (λ (l : List (List ℕ)). length l)
    (end-at c.args.self.now _ (map (written_section c.self.inside.instances.now) sections) c.args.part (sym c.self.view_is)
    (omega (arith, c.if-part-self.true, length-map sections (written_section c.self.inside.instances.now))) c.requires)

pub returns : goal.returns
returns c =
    length-section c.args.self.now _ _ c.self.inside.sections.now c.args.part c.index-self-part.result (sym c.self.view_is)
    (omega (arith, c.if-part-eq0.false)) (omega (arith, c.if-part-self.false))
    ∙ ap (λ (n : ℕ). n + 1) (sym c.len.ensures)
