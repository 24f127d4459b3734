use Rattle.std.specs.Prelude.{◌≡◌, length}
use Rattle.p21_pairing.proofs.whole.one_step_more.Given as goal

abbrev pub invariant-loop-k : goal.invariant-loop-k
invariant-loop-k l = length l.rows.items ≡ l.k
