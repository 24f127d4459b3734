use Rattle.std.proofs.Common.{◌++◌, inl, take}
use Rattle.std.proofs.KnownBytes.{Consumes-trans}
use Rattle.p21_examples.proofs.session.receive_all.Goals as goal

pub returns-in-Err-clause-stopped : goal.returns-in-Err-clause-stopped
returns-in-Err-clause-stopped g c other =
    let fed = c.loop.invariant in
    let piece = take c.in-Ok.count c.read.new.buf in
    record {
      bytes = fed.history.taken ++ piece;
      consumed = Consumes-trans (g.R.Read.remaining c.args.source.now) (g.R.Read.remaining c.loop.source) (g.R.Read.remaining c.read.new.self) fed.history.taken piece fed.given c.in-Ok.ensures.bytes.0;
      refused = inl (c.in-Err.ensures.refuses other fed.history fed.is_open);
    }
