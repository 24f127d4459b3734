use Rattle.std.proofs.Common.{ℕ, List, ◌++◌, codes}
use Rattle.p21_stream_output.proofs.Putting.{part_more, then_all, then_part}
use Rattle.p21_stream_output.specs.Output.{line_of}
use Rattle.p21_stream_output.proofs.output.put_header.Goals as goal

pub returns-in_default-clause-err : goal.returns-in_default-clause-err
returns-in_default-clause-err g c =
    let w : List ℕ = c.args.waiting.now in
    let top : List ℕ = line_of (codes "ISO-10303-21;") ++ line_of (codes "HEADER;") in
    let mid : List ℕ = c.args.header.now in
    let end : List ℕ = line_of (codes "ENDSEC;") in
    part_more _ _ w top (mid ++ end) c.in_default.ensures.err

pub returns-in_default-put-clause-err : goal.returns-in_default-put-clause-err
returns-in_default-put-clause-err g c =
    let w : List ℕ = c.args.waiting.now in
    let top : List ℕ = line_of (codes "ISO-10303-21;") ++ line_of (codes "HEADER;") in
    let mid : List ℕ = c.args.header.now in
    let end : List ℕ = line_of (codes "ENDSEC;") in
    then_part _ _ _ w top c.put.new.self (mid ++ end) c.in-Ok.ensures.ok (part_more _ _ c.put.new.self mid end c.in_default-put.ensures.err)

pub returns-in_default-put_line-clause-err : goal.returns-in_default-put_line-clause-err
returns-in_default-put_line-clause-err g c =
    let w : List ℕ = c.args.waiting.now in
    let top : List ℕ = line_of (codes "ISO-10303-21;") ++ line_of (codes "HEADER;") in
    let mid : List ℕ = c.args.header.now in
    let end : List ℕ = line_of (codes "ENDSEC;") in
    then_part _ _ _ w top c.put.new.self (mid ++ end) c.in-Ok.ensures.ok
    (then_part _ _ _ c.put.new.self mid c.put-2.new.self end c.in-Ok-put.ensures.ok c.in_default-put_line.ensures.err)

pub returns-clause-ok : goal.returns-clause-ok
returns-clause-ok g c =
    let w : List ℕ = c.args.waiting.now in
    let top : List ℕ = line_of (codes "ISO-10303-21;") ++ line_of (codes "HEADER;") in
    let mid : List ℕ = c.args.header.now in
    let end : List ℕ = line_of (codes "ENDSEC;") in
    then_all _ _ _ w top c.put.new.self (mid ++ end) _ c.in-Ok.ensures.ok
    (then_all _ _ _ c.put.new.self mid c.put-2.new.self end _ c.in-Ok-put.ensures.ok c.in-Ok-put_line.ensures.ok)
