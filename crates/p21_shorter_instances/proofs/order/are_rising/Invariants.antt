use Rattle.std.proofs.Common.{drop}
use Rattle.p21_shorter_instances.proofs.ArrangedElements.{LeftBy, RiseFrom}
use Rattle.p21_shorter_instances.proofs.order.are_rising.Given as goal

-- what is left rises behind the element before it
abbrev pub invariant-loop-size : goal.invariant-loop-size
invariant-loop-size l = LeftBy (RiseFrom l.before) l.text l.lengths l.rest (drop l.size-index l.others)
