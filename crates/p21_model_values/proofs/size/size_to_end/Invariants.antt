use Rattle.std.proofs.Common.{◌≡◌, ◌≤◌, ◌+◌, false, drop}
use Rattle.p21_model_values.specs.Ends.{size_within}
use Rattle.p21_model_values.proofs.size.size_to_end.Given as goal

-- what stands before the end, from here on
abbrev pub invariant-loop-at : goal.invariant-loop-at
invariant-loop-at l = (l.within.depth ≤ l.at) × (l.at + size_within (drop l.at l.bytes) l.within.quoted l.within.depth ≡ size_within l.bytes
    false 0)
