use Rattle.std.specs.Prelude.{◌≡◌, [], ℕ, length}
use Rattle.p21_express_graph.specs.Orders.{number_lists}
use Rattle.p21_express_graph.specs.SettledOrder.{nexts_of}
use Rattle.p21_express.proofs.named_owners.empty_lists.Given as goal

abbrev pub invariant-loop : goal.invariant-loop
invariant-loop l = (length l.lists.items ≡ l.counter) × ((k : ℕ) → nexts_of (number_lists l.lists.items) k ≡ [])
