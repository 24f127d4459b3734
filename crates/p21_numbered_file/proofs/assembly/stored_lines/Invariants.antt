use Rattle.std.proofs.Common.{take}
use Rattle.std.specs.Prelude.{IsPermutation}
use Rattle.p21_numbered.specs.Lines.{held_lines}
use Rattle.p21_numbered_file.specs.Assembly.{stored_rows}
use Rattle.p21_numbered_file.proofs.assembly.stored_lines.Given as goal

abbrev pub invariant-loop-k : goal.invariant-loop-k
invariant-loop-k l = IsPermutation (stored_rows (take l.k l.places) (take l.k (held_lines l.lines))) l.instances
