use Rattle.std.specs.Prelude.{◌≡◌, ℕ, vec_len}
use Rattle.std.proofs.Common.{◌-◌, ◌+◌}
use Rattle.p21_schema.specs.Redeclarers.{items_at}
use Rattle.p21_schema.proofs.redeclarers.reach.Given as goal

-- each list is as it was
abbrev pub invariant-loop-alloc : goal.invariant-loop-alloc
invariant-loop-alloc g l = (k : ℕ) → items_at l.lists.items k ≡ items_at l.fn.lists.items k

abbrev pub decreases-loop-alloc : goal.decreases-loop-alloc
decreases-loop-alloc g l = l.index + 1 - vec_len l.lists
