use Rattle.std.proofs.Common.{◌≡◌, ◌≤◌, length, take}
use Rattle.std.specs.Prelude.{vec_capacity, vec_len}
use Rattle.p21_stream_store.proofs.entity_sets.copy.Given as goal

-- the first so many are copied, and there is room for the others
abbrev pub invariant-loop-entity : goal.invariant-loop-entity
invariant-loop-entity l =
    (l.into.items ≡ take l.entity-index l.entities) × (vec_len l.into ≡ l.entity-index) × (length l.entities ≤ vec_capacity l.into)
    × (vec_capacity l.fn.into ≤ vec_capacity l.into)
