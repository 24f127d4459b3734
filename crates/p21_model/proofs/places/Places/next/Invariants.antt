use Rattle.std.proofs.Common.{◌≡◌, length}
use Rattle.p21_model.specs.Left.{places_in}
use Rattle.p21_model.proofs.places.Places.next.Given as goal

-- the same places are left
abbrev pub invariant-loop-owner : goal.invariant-loop-owner
invariant-loop-owner l = (l.self.schema.now ≡ l.fn.self.schema.now) × (places_in l.self ≡ places_in l.fn.self)

abbrev pub decreases-loop-owner : goal.decreases-loop-owner
decreases-loop-owner l = length l.self.owners.now
