use Rattle.std.proofs.Common.{ℕ, List, ◌++◌, codes, map}
use Rattle.p21_stream_output.proofs.Comparing.{not_first, not_second, then_match}
use Rattle.p21_stream_output.specs.Output.{header_text, line_of, sections_text}
use Rattle.p21_stream_output.specs.Stored.{written_section}
use Rattle.p21_stream_output.proofs.compare.behind_file.Goals as goal

pub returns-in_default : goal.returns-in_default
returns-in_default c =
    let top : List ℕ = header_text c.args.header.now in
    let mid : List ℕ = sections_text (map (written_section c.args.instances.now) c.args.sections.now) in
    let end : List ℕ = line_of (codes "END-ISO-10303-21;") in
    not_first _ top (mid ++ end) c.in_default.ensures

pub returns-in_default-behind_sections : goal.returns-in_default-behind_sections
returns-in_default-behind_sections c =
    let top : List ℕ = header_text c.args.header.now in
    let mid : List ℕ = sections_text (map (written_section c.args.instances.now) c.args.sections.now) in
    let end : List ℕ = line_of (codes "END-ISO-10303-21;") in
    not_second _ top (mid ++ end) _ c.in-Some.ensures (not_first _ mid end c.in_default-behind_sections.ensures)

pub returns : goal.returns
returns c =
    let top : List ℕ = header_text c.args.header.now in
    let mid : List ℕ = sections_text (map (written_section c.args.instances.now) c.args.sections.now) in
    let end : List ℕ = line_of (codes "END-ISO-10303-21;") in
    then_match (λ rest. rest.now) _ top (mid ++ end) _ _ c.in-Some.ensures
    (then_match (λ rest. rest.now) _ mid end _ _ c.in-Some-behind_sections.ensures c.behind_line.ensures)
