use Rattle.std.proofs.Common.{◌≤◌, length, take}
use Rattle.std.specs.List.{AllByRecursion as Each}
use Rattle.p21_spec_laws.specs.CompleteFile.{Line}
use Rattle.p21_numbered.specs.Lines.{held_lines}
use Rattle.p21_numbered_file.proofs.sizes.are_within.Given as goal

abbrev pub invariant-loop-line : goal.invariant-loop-line
invariant-loop-line l = Each (λ (x : Line). length x.1 ≤ l.most) (held_lines (take l.line-index l.lines))
