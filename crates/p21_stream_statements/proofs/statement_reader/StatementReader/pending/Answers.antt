use Rattle.std.proofs.Common.{subst}
use Rattle.p21_stream_statements.proofs.Opening.{opens}
use Rattle.p21_stream_statements.specs.StatementReader.{HasOpenStatement, Held, IsLive, StatementHistory}
use Rattle.p21_stream_statements.proofs.statement_reader.StatementReader.pending.Goals as goal

pub returns-clause-pending : goal.returns-clause-pending
returns-clause-pending c =
    subst (λ (h : Held). (reading : StatementHistory) → IsLive h reading → HasOpenStatement reading c.pending.result h.parser.depth)
    c.self.view_is
    (opens (record { lexer = c.self.inside.lexer; parser = c.self.inside.parser }) c.pending.result c.pending.ensures.pending)
