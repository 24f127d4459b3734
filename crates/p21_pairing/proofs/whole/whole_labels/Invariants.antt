use Rattle.std.specs.Prelude.{◌≡◌, length}
use Rattle.p21_pairing.specs.Clauses.{AreWithin}
use Rattle.p21_pairing.proofs.whole.whole_labels.Given as goal

-- there is a number for each instance, and each is below how many there are
abbrev pub invariant-loop-step : goal.invariant-loop-step
invariant-loop-step l = (length l.wholes.items ≡ length l.labels) × AreWithin l.wholes.items
