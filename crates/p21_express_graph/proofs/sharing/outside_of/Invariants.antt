use Rattle.std.proofs.Common.{ℕ, Contains, take}
use Rattle.p21_express_graph.specs.Orders.{numbers}
use Rattle.p21_express_graph.proofs.Outside.{IsOutside}
use Rattle.p21_express_graph.proofs.sharing.outside_of.Given as goal

-- the first entities of the list are in the front, or outside of it
abbrev pub invariant-loop-other : goal.invariant-loop-other
invariant-loop-other l = ((f : ℕ) → Contains l.outside.items f → Contains (numbers l.list) f) × ((f : ℕ) → IsOutside (numbers l.front) l.outside.items (numbers (take l.other-index l.list)) l.entity.0 f)
