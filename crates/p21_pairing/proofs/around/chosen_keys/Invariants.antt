use Rattle.std.specs.Prelude.{◌≡◌, length}
use Rattle.p21_pairing.proofs.around.chosen_keys.Given as goal

abbrev pub invariant-loop-k : goal.invariant-loop-k
invariant-loop-k l = length l.rows.items ≡ l.k
