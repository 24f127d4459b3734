use Rattle.std.proofs.Common.{◌≡◌, take}
use Rattle.p21_express_graph.specs.Orders.{numbers}
use Rattle.p21_shorter_instances.proofs.sets.are_same.Given as goal

-- those so far are the same
abbrev pub invariant-loop-at : goal.invariant-loop-at
invariant-loop-at l = numbers (take l.at l.entities) ≡ numbers (take l.at l.others)
