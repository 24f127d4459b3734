use Rattle.std.proofs.Common.{◌≡◌, length}
use Rattle.std.specs.List.{AllByRecursion as Each}
use Rattle.p21_express_graph.specs.Prefixes.{IsEmptyPrefix}
use Rattle.p21_express_graph.proofs.prefixes.empty_prefixes.Given as goal

abbrev pub invariant-loop : goal.invariant-loop
invariant-loop l = (length l.prefixes.items ≡ l.counter) × Each IsEmptyPrefix l.prefixes.items
