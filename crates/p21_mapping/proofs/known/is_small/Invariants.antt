use Rattle.p21_mapping.proofs.known.is_small.Given as goal

-- nothing is claimed of the count
abbrev pub invariant-loop-owner : goal.invariant-loop-owner
invariant-loop-owner l = Unit {0}
