use Rattle.std.proofs.Common.{length}
use Rattle.p21_numbering.specs.NewNames.{new_name}
use Rattle.p21_numbered.proofs.Numbering.{Halfway}
use Rattle.p21_numbered.proofs.lines.written_lines.Given as goal

abbrev pub invariant-loop-one : goal.invariant-loop-one
invariant-loop-one l = Halfway l.schema (new_name l.names) l.left.items l.fn.instances.items l.lines.items

abbrev pub decreases-loop-one : goal.decreases-loop-one
decreases-loop-one l = length l.left.items
