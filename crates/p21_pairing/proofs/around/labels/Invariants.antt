use Rattle.std.specs.Prelude.{◌≡◌, length}
use Rattle.p21_pairing.proofs.around.labels.Given as goal

abbrev pub invariant-loop-node : goal.invariant-loop-node
invariant-loop-node l = length l.rows.items ≡ l.node-index
