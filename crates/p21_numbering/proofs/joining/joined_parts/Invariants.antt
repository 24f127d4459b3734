use Rattle.std.specs.Prelude.{take}
use Rattle.p21_numbering.specs.Rows.{held_rows}
use Rattle.p21_numbering.proofs.Joined.{AreParts}
use Rattle.p21_numbering.proofs.joining.joined_parts.Given as goal

abbrev pub invariant-loop-pair : goal.invariant-loop-pair
invariant-loop-pair l = AreParts l.fn.count (take l.pair-index l.pairs) l.parts.of.items (held_rows l.parts.members.items)
