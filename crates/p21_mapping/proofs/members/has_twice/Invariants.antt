use Rattle.std.proofs.Common.{take}
use Rattle.p21_spec_basics.proofs.Shuffles.{NoneTwice}
use Rattle.p21_express_graph.specs.Orders.{numbers}
use Rattle.p21_mapping.proofs.members.has_twice.Given as goal

abbrev pub invariant-loop-at : goal.invariant-loop-at
invariant-loop-at l = NoneTwice (numbers (take l.at l.entities))
