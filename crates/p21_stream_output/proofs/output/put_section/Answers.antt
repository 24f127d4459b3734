use Rattle.std.proofs.Common.{ℕ, List, ◌++◌, codes}
use Rattle.p21_stream_output.proofs.Putting.{part_more, then_all, then_part}
use Rattle.p21_stream_output.specs.Output.{line_of, lines_of}
use Rattle.p21_stream_output.specs.Stored.{texts_at}
use Rattle.p21_stream_output.proofs.output.put_section.Goals as goal

pub returns-in_default-clause-err : goal.returns-in_default-clause-err
returns-in_default-clause-err g c =
    let w : List ℕ = c.args.waiting.now in
    let top : List ℕ = line_of c.args.section.now.line.items in
    let mid : List ℕ = lines_of (texts_at c.args.instances.now c.args.section.now.instance_positions) in
    let end : List ℕ = line_of (codes "ENDSEC;") in
    part_more _ _ w top (mid ++ end) (rw c.deref.ensures.value at c.in_default.ensures.err)

pub returns-in_default-put_lines-clause-err : goal.returns-in_default-put_lines-clause-err
returns-in_default-put_lines-clause-err g c =
    let w : List ℕ = c.args.waiting.now in
    let top : List ℕ = line_of c.args.section.now.line.items in
    let mid : List ℕ = lines_of (texts_at c.args.instances.now c.args.section.now.instance_positions) in
    let end : List ℕ = line_of (codes "ENDSEC;") in
    then_part _ _ _ w top c.put_line.new.waiting (mid ++ end) (rw c.deref.ensures.value at c.in-Ok.ensures.ok)
    (part_more _ _ c.put_line.new.waiting mid end c.in_default-put_lines.ensures.err)

pub returns-in_default-put_line-clause-err : goal.returns-in_default-put_line-clause-err
returns-in_default-put_line-clause-err g c =
    let w : List ℕ = c.args.waiting.now in
    let top : List ℕ = line_of c.args.section.now.line.items in
    let mid : List ℕ = lines_of (texts_at c.args.instances.now c.args.section.now.instance_positions) in
    let end : List ℕ = line_of (codes "ENDSEC;") in
    then_part _ _ _ w top c.put_line.new.waiting (mid ++ end) (rw c.deref.ensures.value at c.in-Ok.ensures.ok)
    (then_part _ _ _ c.put_line.new.waiting mid c.put_lines.new.waiting end c.in-Ok-put_lines.ensures.ok
    c.in_default-put_line.ensures.err)

pub returns-clause-ok : goal.returns-clause-ok
returns-clause-ok g c =
    let w : List ℕ = c.args.waiting.now in
    let top : List ℕ = line_of c.args.section.now.line.items in
    let mid : List ℕ = lines_of (texts_at c.args.instances.now c.args.section.now.instance_positions) in
    let end : List ℕ = line_of (codes "ENDSEC;") in
    then_all _ _ _ w top c.put_line.new.waiting (mid ++ end) _ (rw c.deref.ensures.value at c.in-Ok.ensures.ok)
    (then_all _ _ _ c.put_line.new.waiting mid c.put_lines.new.waiting end _ c.in-Ok-put_lines.ensures.ok c.in-Ok-put_line.ensures.ok)
