use Rattle.std.proofs.Common.{ℕ, List, length, ◌≤◌}
use Rattle.p21_spec_exchange.specs.Parameter.{Params}
use Rattle.p21_model_values.specs.Written.{AreLeft}
use Rattle.p21_model.proofs.entities.behind_values.Given as goal

-- values of the same record are left
abbrev pub invariant-loop-left : goal.invariant-loop-left
invariant-loop-left l =
    ((ps : Params) (after : List ℕ) → AreLeft ps after l.fn.values.rest.now → (qs : Params) × AreLeft qs after l.left.rest.now) ×
    (length l.left.rest.now ≤ length l.fn.values.rest.now)

abbrev pub decreases-loop-left : goal.decreases-loop-left
decreases-loop-left l = length l.left.rest.now
