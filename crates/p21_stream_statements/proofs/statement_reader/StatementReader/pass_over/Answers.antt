use Rattle.std.proofs.Common.{refl}
use Rattle.p21_stream_statements.proofs.PassedOver.{passes-on}
use Rattle.p21_stream_statements.proofs.Reopening.{between-passed}
use Rattle.p21_stream_statements.proofs.statement_reader.StatementReader.pass_over.Goals as goal

pub returns-clause-gives : goal.returns-clause-gives
returns-clause-gives c = λ done.
    passes-on c.self.inside.lexer c.pass_over.new.self c.self.inside.parser c.args.self.now c.args.count c.self.view_is
    (c.if-not-is_between_instances.ensures.rests refl) (c.if-not-is_between_instances.ensures.stands refl)
    (c.pass_over.ensures.history done)

pub returns-clause-between : goal.returns-clause-between
returns-clause-between c = λ done.
    between-passed c.self.inside.lexer c.pass_over.new.self c.self.inside.parser c.args.self.now c.args.count c.self.view_is
    (c.pass_over.ensures.held done) (c.if-not-is_between_instances.ensures.between refl)
