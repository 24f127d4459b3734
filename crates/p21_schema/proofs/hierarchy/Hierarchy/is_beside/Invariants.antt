use Rattle.std.proofs.Common.{◌≡◌, ℕ, Contains, Some, take}
use Rattle.p21_schema.specs.NotedEntities.{NotesSet, noted_in}
use Rattle.p21_schema.proofs.Noted.{IsNoted}
use Rattle.p21_schema.proofs.hierarchy.Hierarchy.is_beside.Given as goal

-- the entity is noted at the lists so far, where no other one was
abbrev pub invariant-loop-number : goal.invariant-loop-number
invariant-loop-number l =
    IsNoted l.entity.0 (take l.number-index l.number-items) (noted_in l.fn.holders.of_lists.items l.set.0)
    (noted_in l.holders.of_lists.items l.set.0)
    × ((k : ℕ) → Contains (take l.number-index l.number-items) k → (other : ℕ) → noted_in l.fn.holders.of_lists.items l.set.0 k ≡ Some other
    → other ≡ l.entity.0)
    × NotesSet l.set.0 l.fn.holders.of_lists.items l.holders.of_lists.items
