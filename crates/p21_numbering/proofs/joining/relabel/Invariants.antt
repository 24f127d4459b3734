use Rattle.std.specs.Prelude.{take}
use Rattle.p21_numbering.proofs.Joined.{AreRelabelled}
use Rattle.p21_numbering.proofs.joining.relabel.Given as goal

abbrev pub invariant-loop-one : goal.invariant-loop-one
invariant-loop-one l = AreRelabelled (take l.one-index l.moved) l.number l.fn.of.items l.of.items
