use Rattle.std.proofs.Common.{sym, subst}
use Rattle.p21_stream_statements.specs.StatementReader as statements
use Rattle.p21_stream.proofs.PieceFeeding.{holds}
use Rattle.p21_stream.specs.Held.{SessionHeld}
use Rattle.p21_stream.specs.Inside.{held_in}
use Rattle.p21_stream.proofs.progress.Progress.held.Goals as goal

pub returns-clause-held : goal.returns-clause-held
returns-clause-held c s limits =
    let inside : SessionHeld = held_in s limits c.args.self.now in
    holds inside c.pending.result c.depth.result c.size.result c.references.result
    (subst (λ n. (reading : statements.StatementHistory) → statements.IsLive inside.statements reading
    → statements.HasOpenStatement reading c.pending.result n) (sym c.depth.ensures.depth) c.pending.ensures.pending) c.size.ensures
    c.references.ensures
