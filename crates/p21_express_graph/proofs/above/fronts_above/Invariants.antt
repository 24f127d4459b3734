use Rattle.std.proofs.Common.{◌≡◌, ℕ, length, slice_get, Some}
use Rattle.p21_express_graph.specs.Above.{HasAbove}
use Rattle.p21_express_graph.specs.declared.above.Above.{Above}
use Rattle.p21_express_graph.proofs.above.fronts_above.Given as goal

-- the first entities have theirs
abbrev pub invariant-loop-number : goal.invariant-loop-number
invariant-loop-number l = (length l.all.items ≡ l.number) × ((e : ℕ) (above : Above) → slice_get l.all.items e ≡ Some above → HasAbove l.orders e above.front above.others.items)
