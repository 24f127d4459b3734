use Rattle.std.proofs.Common.{ℕ, List, length, ◌≡◌, ◌≤◌}
use Rattle.p21_model.specs.EntitiesLeft.{TellsEntities, entities_size, set_schema}
use Rattle.p21_model.proofs.entities.Entities.next.Given as goal

-- the same entities are left
abbrev pub invariant-loop-self : goal.invariant-loop-self
invariant-loop-self l = ((entities : List ℕ) → TellsEntities l.fn.self entities → TellsEntities l.self entities)
    × (set_schema l.self ≡ set_schema l.fn.self) × (entities_size l.self ≤ entities_size l.fn.self)

abbrev pub decreases-loop-self : goal.decreases-loop-self
decreases-loop-self l = length l.self.values.rest.now
