use Rattle.std.proofs.Common.{◌≡◌, ◌++◌, ℕ, List, Bor, map, take}
use Rattle.std.specs.List.{flat_map}
use Rattle.p21_stream_output.specs.Output.{line_of}
use Rattle.p21_stream_output.proofs.compare.behind_texts.Given as goal

abbrev pub invariant-loop-line : goal.invariant-loop-line
invariant-loop-line l = l.text ≡ flat_map line_of (map (λ (line : Bor (List ℕ)). line.now) (take l.line-index l.lines)) ++ l.left
