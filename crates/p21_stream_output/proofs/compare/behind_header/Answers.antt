use Rattle.std.proofs.Common.{ℕ, List, ◌++◌, codes}
use Rattle.p21_stream_output.proofs.Comparing.{then_match}
use Rattle.p21_stream_output.specs.Output.{line_of}
use Rattle.p21_stream_output.proofs.compare.behind_header.Goals as goal

pub returns : goal.returns
returns c =
    let top : List ℕ = line_of (codes "ISO-10303-21;") ++ line_of (codes "HEADER;") in
    let end : List ℕ = line_of (codes "ENDSEC;") in
    then_match (λ rest. rest.now) _ top (c.args.header.now ++ end) _ _ c.in-Some.ensures
    (then_match (λ rest. rest.now) _ c.args.header.now end _ _ c.in-Some-behind.ensures c.behind_line.ensures)
