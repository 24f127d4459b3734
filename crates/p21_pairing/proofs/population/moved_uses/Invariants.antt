use Rattle.std.proofs.Common.{length}
use Rattle.p21_numbering.specs.NewNames.{new_name}
use Rattle.p21_numbering.proofs.Renamings.{Halfway}
use Rattle.p21_pairing.proofs.JointNodes.{held_use, moved_held}
use Rattle.p21_pairing.proofs.population.moved_uses.Given as goal

abbrev pub invariant-loop-one : goal.invariant-loop-one
invariant-loop-one l = Halfway (moved_held (new_name l.names)) held_use l.left.items l.fn.uses.items l.moved.items

abbrev pub decreases-loop-one : goal.decreases-loop-one
decreases-loop-one l = length l.left.items
