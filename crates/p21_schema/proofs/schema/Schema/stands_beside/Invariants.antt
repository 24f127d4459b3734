use Rattle.std.proofs.Common.{◌≡◌, ℕ, Contains, Some, take}
use Rattle.std.specs.BTreeMap.{get}
use Rattle.std.specs.Ordering.{nat_cmp}
use Rattle.p21_schema.proofs.Noted.{IsNoted}
use Rattle.p21_schema.proofs.schema.Schema.stands_beside.Given as goal

-- the entity is noted at the lists so far, where no other one was
abbrev pub invariant-loop-number : goal.invariant-loop-number
invariant-loop-number l = IsNoted l.entity.0 (take l.number-index l.number-items) (get nat_cmp l.fn.holders) (get nat_cmp l.holders)
    × ((k : ℕ) → Contains (take l.number-index l.number-items) k → (other : ℕ) → get nat_cmp l.fn.holders k ≡ Some other
    → other ≡ l.entity.0)
