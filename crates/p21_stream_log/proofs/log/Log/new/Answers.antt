use Rattle.std.proofs.Common.{false, refl}
use Rattle.p21_stream_log.proofs.Stepping.{at-start}
use Rattle.p21_stream_log.proofs.log.Log.new.Goals as goal

pub returns : goal.returns
returns c = record {
  logs = λ s known ahead begin.
      at-start s c.args.limits known (record { reader = c.new.result; start = 0; buffer = c.new-2.result.items; opened = false }) ahead
      c.new.ensures.live c.new.ensures.between c.new.ensures.limits refl c.new-2.ensures.items refl begin;
  begins = record { start = refl; buffer = c.new-2.ensures.items };
}
