use Rattle.std.proofs.Common.{take}
use Rattle.p21_express_graph.specs.Orders.{numbers}
use Rattle.p21_mapping.specs.Redeclaring.{AreThoseAmong}
use Rattle.p21_mapping.proofs.among.those_among.Given as goal

-- those that were looked at so far
abbrev pub invariant-loop-entity : goal.invariant-loop-entity
invariant-loop-entity l = AreThoseAmong l.entities (numbers (take l.entity-index l.some)) (numbers l.members.items)
