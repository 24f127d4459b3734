use Rattle.std.proofs.Common.{◌≡◌, length}
use Rattle.std.specs.List.{AllByRecursion as Each}
use Rattle.p21_schema.specs.NotedEntities.{IsNone}
use Rattle.p21_schema.proofs.holders.Holders.new.Given as goal

abbrev pub invariant-loop : goal.invariant-loop
invariant-loop l = (length l.of_lists.items ≡ l.counter) × Each IsNone l.of_lists.items
