use Rattle.std.proofs.Common.{arith}
use Rattle.p21_stream_store.proofs.InstanceLemmas.{all_size}
use Rattle.p21_stream_store.proofs.named_lines.NamedLines.count.Goals as goal

pub returns-clause-len : goal.returns-clause-len
returns-clause-len c = let size = all_size _ _ _ c.self.view_is c.self.invariant.texts in omega (arith, size, c.len.ensures.len)
