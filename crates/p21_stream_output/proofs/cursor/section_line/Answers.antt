use Rattle.std.proofs.Common.{◌∷◌, ◌++◌, [], codes, sym, ap, ◌∙◌, arith}
use Rattle.std.proofs.lemmas.List.{append_assoc, length-map}
use Rattle.p21_stream_output.proofs.Reading.{closed-at, closed-last}
use Rattle.p21_stream_output.specs.Output.{line_of}
use Rattle.p21_stream_output.specs.Stored.{texts_at}
use Rattle.p21_stream_store.specs.StoredInstance.{text_at}
use Rattle.p21_stream_output.proofs.cursor.section_line.Goals as goal

pub returns-then-line-len : goal.returns-then-line-len
returns-then-line-len c =
    let texts = texts_at c.args.instances.now c.args.section.now.instance_positions in
    ap line_of c.section_text-text.ensures
    ∙ sym (closed-at c.args.section.now.line.items texts c.args.line
    (omega (arith, c.if-line-len.true, c.len.ensures, length-map c.args.section.now.instance_positions (text_at c.args.instances.now))))

pub returns : goal.returns
returns c =
    let texts = texts_at c.args.instances.now c.args.section.now.instance_positions in
    let end = line_of (codes "ENDSEC;") in
    sym (append_assoc c.section_text-text.result.now (10 ∷ []) end)
    ∙ ap (λ text. line_of text ++ end) c.section_text-text.ensures
    ∙ sym (closed-last c.args.section.now.line.items texts c.args.line
    (omega (
      arith,
      c.requires.line,
      c.if-line-len.false,
      c.len.ensures,
      length-map c.args.section.now.instance_positions
          (text_at c.args.instances.now),
    )))
