use Rattle.std.specs.Prelude.{◌≡◌, ◌<◌, ℕ, false}
use Rattle.p21_numbering.specs.Arrays.{marked}
use Rattle.p21_numbering.proofs.ending.is_any_fresh.Given as goal

abbrev pub invariant-loop-one : goal.invariant-loop-one
invariant-loop-one l = (m : ℕ) → m < l.one-index → marked l.fresh m ≡ false
