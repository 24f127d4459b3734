-- Uses of instances by one another, in their order.
use Rattle.std.specs.Prelude.{ℕ, List}
use Rattle.std.specs.List.Sorted.{IsStrictlySortedBy}
use Rattle.std.specs.Ordering.{nat_cmp, ordering_then}
use Rattle.std.specs.declared.cmp.Ordering.{Ordering}

-- the name that is used, that of the instance that uses it, and the entity and the number of the attribute where it does
abbrev pub UseRow : Type 0
UseRow = ℕ × ℕ × ℕ × ℕ

-- by the name that is used, then by the user, then by the attribute: its entity, and its number there
abbrev pub use_cmp : UseRow → UseRow → Ordering
use_cmp a b = ordering_then (ordering_then (ordering_then (nat_cmp a.0 b.0) (nat_cmp a.1 b.1)) (nat_cmp a.2 b.2)) (nat_cmp a.3 b.3)

-- in this order, each once
abbrev pub AreInOrder : List UseRow → Type 0
AreInOrder uses = IsStrictlySortedBy use_cmp uses
