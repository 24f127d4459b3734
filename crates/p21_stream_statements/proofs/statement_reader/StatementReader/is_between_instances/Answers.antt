use Rattle.std.proofs.Common.{refl, subst}
use Rattle.p21_stream_statements.specs.Reopening.{IsBetweenStatements}
use Rattle.p21_stream_statements.proofs.statement_reader.StatementReader.is_between_instances.Goals as goal

pub returns-clause-between : goal.returns-clause-between
returns-clause-between c = λ done. subst IsBetweenStatements c.self.view_is
    (record { lexer = c.if-not-is_resting.ensures.value.0 refl; parser = c.is_between_instances.ensures.between done })
