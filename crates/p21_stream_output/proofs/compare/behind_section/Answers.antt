use Rattle.std.proofs.Common.{ℕ, List, ◌++◌, codes}
use Rattle.p21_stream_output.proofs.Comparing.{not_first, not_second, then_match}
use Rattle.p21_stream_output.specs.Output.{line_of, lines_of}
use Rattle.p21_stream_output.specs.Stored.{texts_at}
use Rattle.p21_stream_output.proofs.compare.behind_section.Goals as goal

pub returns-in_default-behind_lines : goal.returns-in_default-behind_lines
returns-in_default-behind_lines c =
    let top : List ℕ = line_of c.args.section.now.line.items in
    let mid : List ℕ = lines_of (texts_at c.args.instances.now c.args.section.now.instance_positions) in
    let end : List ℕ = line_of (codes "ENDSEC;") in
    not_second _ top (mid ++ end) _ (rw c.deref.ensures.value at c.in-Some.ensures) (not_first _ mid end c.in_default-behind_lines.ensures)

pub returns : goal.returns
returns c =
    let top : List ℕ = line_of c.args.section.now.line.items in
    let mid : List ℕ = lines_of (texts_at c.args.instances.now c.args.section.now.instance_positions) in
    let end : List ℕ = line_of (codes "ENDSEC;") in
    then_match (λ rest. rest.now) _ top (mid ++ end) _ _ (rw c.deref.ensures.value at c.in-Some.ensures)
    (then_match (λ rest. rest.now) _ mid end _ _ c.in-Some-behind_lines.ensures c.behind_line-2.ensures)
