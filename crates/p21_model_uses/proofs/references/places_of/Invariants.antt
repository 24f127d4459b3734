use Rattle.std.proofs.Common.{◌≡◌, map, take}
use Rattle.p21_model_uses.specs.Tables.{place_of}
use Rattle.p21_model_uses.proofs.references.places_of.Given as goal

-- those of the rows so far
abbrev pub invariant-loop-at : goal.invariant-loop-at
invariant-loop-at l = l.places.items ≡ map place_of (take l.at l.rows)
