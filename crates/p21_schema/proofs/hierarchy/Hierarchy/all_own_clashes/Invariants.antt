use Rattle.std.proofs.Common.{◌≡◌, length}
use Rattle.p21_schema.specs.NotedEntities.{NoneFrom}
use Rattle.p21_schema.specs.OwnSets.{EachClashes}
use Rattle.p21_schema.proofs.hierarchy.Hierarchy.all_own_clashes.Given as goal

-- the first so many are found, and none is noted for a later one
abbrev pub invariant-loop-number : goal.invariant-loop-number
invariant-loop-number l = (length l.clashes.items ≡ l.number) × EachClashes l.self l.clashes.items
    × (length l.holders.of_lists.items ≡ length l.self.one_of_lists) × NoneFrom l.number l.holders.of_lists.items
