use Rattle.std.proofs.Common.{take}
use Rattle.p21_express_graph.specs.Orders.{numbers}
use Rattle.p21_schema.specs.NotedEntities.{AreNoted, NotesSet, noted_in}
use Rattle.p21_schema.proofs.hierarchy.Hierarchy.find_own_clash.Given as goal

-- the entities so far are noted
abbrev pub invariant-loop-entity : goal.invariant-loop-entity
invariant-loop-entity l = AreNoted l.self (numbers (take l.entity-index l.entity-items)) (noted_in l.holders.of_lists.items l.set.0)
    × NotesSet l.set.0 l.fn.holders.of_lists.items l.holders.of_lists.items
