use Rattle.std.proofs.Common.{◌≡◌, length, map, ◌++◌}
use Rattle.std.specs.Vec.Iter.{into_iter_items}
use Rattle.p21_express_graph.specs.Redeclaring.{redeclaring, redeclaring_each}
use Rattle.p21_express_graph.specs.SchemaContents.{entity}
use Rattle.p21_express_graph.proofs.redeclaring.all_with_redeclarations.Given as goal

-- those that are left are as many as what they redeclare, and with them there are all
abbrev pub invariant-loop-entity : goal.invariant-loop-entity
invariant-loop-entity l =
    (goal.iterator-loop-entity).can_next l.entity-iterator × (goal.iterator-loop-entity).is_finite l.entity-iterator × (length (into_iter_items l.entity-iterator) ≡ length (into_iter_items l.left))
    × (map entity l.whole.items ++ redeclaring_each (map entity (into_iter_items l.entity-iterator)) (map redeclaring (into_iter_items l.left)) ≡ redeclaring_each (map entity l.fn.bare.items) (map redeclaring l.fn.found.items))
