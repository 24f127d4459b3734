use Rattle.std.proofs.Common.{ℕ, List, ◌++◌, codes, map}
use Rattle.p21_stream_output.proofs.Putting.{part_more, then_all, then_part}
use Rattle.p21_stream_output.specs.Output.{header_text, line_of, sections_text}
use Rattle.p21_stream_output.specs.Stored.{written_section}
use Rattle.p21_stream_output.proofs.output.put_file.Goals as goal

pub returns-in_default-clause-err : goal.returns-in_default-clause-err
returns-in_default-clause-err g c =
    let w : List ℕ = c.args.waiting.now in
    let top : List ℕ = header_text c.args.header.now in
    let mid : List ℕ = sections_text (map (written_section c.args.instances.now) c.args.sections.now) in
    let end : List ℕ = line_of (codes "END-ISO-10303-21;") in
    part_more _ _ w top (mid ++ end) c.in_default.ensures.err

pub returns-in_default-put_sections-clause-err : goal.returns-in_default-put_sections-clause-err
returns-in_default-put_sections-clause-err g c =
    let w : List ℕ = c.args.waiting.now in
    let top : List ℕ = header_text c.args.header.now in
    let mid : List ℕ = sections_text (map (written_section c.args.instances.now) c.args.sections.now) in
    let end : List ℕ = line_of (codes "END-ISO-10303-21;") in
    then_part _ _ _ w top c.put_header.new.waiting (mid ++ end) c.in-Ok.ensures.ok
    (part_more _ _ c.put_header.new.waiting mid end c.in_default-put_sections.ensures.err)

pub returns-in_default-put_line-clause-err : goal.returns-in_default-put_line-clause-err
returns-in_default-put_line-clause-err g c =
    let w : List ℕ = c.args.waiting.now in
    let top : List ℕ = header_text c.args.header.now in
    let mid : List ℕ = sections_text (map (written_section c.args.instances.now) c.args.sections.now) in
    let end : List ℕ = line_of (codes "END-ISO-10303-21;") in
    then_part _ _ _ w top c.put_header.new.waiting (mid ++ end) c.in-Ok.ensures.ok
    (then_part _ _ _ c.put_header.new.waiting mid c.put_sections.new.waiting end c.in-Ok-put_sections.ensures.ok
    c.in_default-put_line.ensures.err)

pub returns-clause-ok : goal.returns-clause-ok
returns-clause-ok g c =
    let w : List ℕ = c.args.waiting.now in
    let top : List ℕ = header_text c.args.header.now in
    let mid : List ℕ = sections_text (map (written_section c.args.instances.now) c.args.sections.now) in
    let end : List ℕ = line_of (codes "END-ISO-10303-21;") in
    then_all _ _ _ w top c.put_header.new.waiting (mid ++ end) _ c.in-Ok.ensures.ok
    (then_all _ _ _ c.put_header.new.waiting mid c.put_sections.new.waiting end _ c.in-Ok-put_sections.ensures.ok
    c.in-Ok-put_line.ensures.ok)
