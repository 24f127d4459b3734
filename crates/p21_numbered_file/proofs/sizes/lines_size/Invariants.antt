use Rattle.std.proofs.Common.{◌≡◌, ◌+◌, length, take}
use Rattle.std.specs.Prelude.{sum_by}
use Rattle.p21_numbered.specs.declared.numbered_line.NumberedLine.{NumberedLine}
use Rattle.p21_numbered_file.proofs.sizes.lines_size.Given as goal

abbrev pub invariant-loop-k : goal.invariant-loop-k
invariant-loop-k l = l.size ≡ sum_by (λ (x : NumberedLine). length x.text.items + 1) (take l.k l.lines)
