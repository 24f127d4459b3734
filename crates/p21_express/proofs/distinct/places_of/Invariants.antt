use Rattle.std.proofs.Common.{◌≡◌, map, take}
use Rattle.p21_express.proofs.distinct.places_of.Given as goal

-- those of the redeclarations so far
abbrev pub invariant-loop-other : goal.invariant-loop-other
invariant-loop-other l = l.places.items ≡ map (λ r. r.place) (take l.other-index l.redeclared)
