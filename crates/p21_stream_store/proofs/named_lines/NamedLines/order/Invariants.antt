use Rattle.p21_stream_store.proofs.OrderLemmas.{Walked, left}
use Rattle.p21_stream_store.specs.StoredInstance.{name_at}
use Rattle.p21_stream_store.proofs.named_lines.NamedLines.order.Given as goal

abbrev pub invariant-loop-next : goal.invariant-loop-next
invariant-loop-next l = Walked (name_at l.self) l.self-inside.names l.order l.next

abbrev pub decreases-loop-next : goal.decreases-loop-next
decreases-loop-next l = left l.next
