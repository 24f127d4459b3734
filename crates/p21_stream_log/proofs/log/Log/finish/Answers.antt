use Rattle.std.proofs.Common.{subst}
use Rattle.p21_stream_log.proofs.Ending.{ends}
use Rattle.p21_stream_log.specs.Ending.{EndGives}
use Rattle.p21_stream_log.specs.Log.{Held}
use Rattle.p21_stream_log.proofs.log.Log.finish.Goals as goal

pub returns-clause-gives : goal.returns-clause-gives
returns-clause-gives c =
    let held : Held = record {
      reader = c.self.inside.reader;
      start = c.self.inside.start;
      buffer = c.self.inside.buffer.items;
      opened =
          c.self.inside.opened;
    } in
    subst (λ (h : Held). EndGives h c.finish.result) c.self.view_is
    (ends c.whole_laws.ensures.alike c.whole_laws.ensures.no_file held c.finish.result c.finish.ensures.gives)
