use Rattle.std.proofs.Common.{length, ap, sym, ◌∙◌}
use Rattle.p21_stream_store.proofs.RunLemmas.{length-run}
use Rattle.p21_stream_store.proofs.runs.Run.len.Goals as goal

pub returns-clause-len : goal.returns-clause-len
returns-clause-len c = sym (length-run c.self.inside.first c.self.inside.step c.self.inside.count) ∙ ap length c.self.view_is
