use Rattle.std.proofs.Common.{◌≡◌, ℕ, length, slice_get, Some}
use Rattle.p21_express_graph.specs.Orders.{number_lists}
use Rattle.p21_express_graph.specs.declared.indexes.Index.{Index}
use Rattle.p21_express_graph.proofs.FirstPositions.{IsIndexWhere}
use Rattle.p21_express_graph.proofs.indexes.indexes_of.Given as goal

-- the first runs have their indexes
abbrev pub invariant-loop-at : goal.invariant-loop-at
invariant-loop-at l = (length l.places.items ≡ l.count) × (length l.indexes.items ≡ l.at) × ((r : ℕ) (index : Index) → slice_get l.indexes.items r ≡ Some index → IsIndexWhere (number_lists l.runs) l.used.items r index)
