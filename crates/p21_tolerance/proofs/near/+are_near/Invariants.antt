use Rattle.std.proofs.Common.{length}
use Rattle.p21_spec_exchange.specs.Parameter.{Params, list}
use Rattle.p21_model_values.specs.Written.{IsTextOf}
use Rattle.p21_tolerance.specs.Within.{tolerance_of}
use Rattle.p21_tolerance.proofs.NearLists.{AreLeftToCompare}
use Rattle.p21_tolerance.proofs.near.+are_near.Given as goal

abbrev pub decreases-are_near : goal.decreases-are_near
decreases-are_near l = length l.first.text.now

-- the values before are near
abbrev pub invariant-loop-one : goal.invariant-loop-one
invariant-loop-one l =
    (ps qs : Params) → IsTextOf l.fn.first.text.now (list ps) → IsTextOf l.fn.second.text.now (list qs)
    → AreLeftToCompare (tolerance_of l.fn.tolerance) ps qs l.ones.rest.now l.others.rest.now (length l.fn.first.text.now)

abbrev pub decreases-loop-one : goal.decreases-loop-one
decreases-loop-one l = length l.ones.rest.now
