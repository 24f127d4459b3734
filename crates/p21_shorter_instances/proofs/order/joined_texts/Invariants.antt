use Rattle.std.proofs.Common.{drop}
use Rattle.p21_shorter_instances.proofs.ArrangedElements.{Left}
use Rattle.p21_shorter_instances.proofs.order.joined_texts.Given as goal

abbrev pub invariant-loop-size : goal.invariant-loop-size
invariant-loop-size l = Left l.text l.lengths l.rest (drop l.size-index l.lengths) l.bytes.items
