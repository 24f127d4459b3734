use Rattle.std.proofs.Common.{◌≡◌, ◌-◌, length}
use Rattle.p21_express_graph.specs.Indexes.{HaveFirstPositions}
use Rattle.p21_express_graph.specs.Orders.{numbers}
use Rattle.p21_express_graph.proofs.indexes.note_positions.Given as goal

-- the places of the last entities are noted
abbrev pub invariant-loop-past : goal.invariant-loop-past
invariant-loop-past l = (length l.places.items ≡ length l.fn.places.items) × HaveFirstPositions (numbers l.run) l.places.items (length l.run - l.past)
