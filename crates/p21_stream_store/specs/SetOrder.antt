-- Sets of entities in order: those of fewer entities first.
use Rattle.std.specs.Prelude.{List, length}
use Rattle.std.specs.Cmp.{IsTotalOrder, nat_cmp_total, on_total, then_total}
use Rattle.std.specs.Cmp.Lexicographic.{lists_total, slice_cmp}
use Rattle.std.specs.Ordering.{nat_cmp, ordering_then}
use Rattle.std.specs.declared.cmp.Ordering.{Ordering}
use Rattle.p21_express_graph.specs.declared.number.EntityId.{EntityId}

-- entities by their numbers, the first that differ first
abbrev pub by_entities : List EntityId → List EntityId → Ordering
by_entities entities others = slice_cmp (λ (a b : EntityId). nat_cmp a.0 b.0) entities others

-- by their count first
abbrev pub by_size : List EntityId → List EntityId → Ordering
by_size entities others = ordering_then (nat_cmp (length entities) (length others)) (by_entities entities others)

pub by_size_total : IsTotalOrder by_size
by_size_total = then_total (on_total length nat_cmp_total) (lists_total (on_total (λ (a : EntityId). a.0) nat_cmp_total))
