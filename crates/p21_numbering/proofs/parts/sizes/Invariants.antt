use Rattle.std.specs.Prelude.{length}
use Rattle.p21_numbering.specs.Largest.{AreSizes}
use Rattle.p21_numbering.proofs.parts.sizes.Given as goal

abbrev pub invariant-loop-n : goal.invariant-loop-n
invariant-loop-n l = AreSizes (length l.rank) l.n l.rank l.sizes.items
