use Rattle.std.proofs.Common.{refl, subst}
use Rattle.p21_stream_statements.proofs.Reopening.{between-reopened, gives-reopened}
use Rattle.p21_stream_statements.specs.Reopening.{GivesReopened}
use Rattle.p21_stream_statements.specs.StatementReader.{Held}
use Rattle.p21_stream_statements.proofs.statement_reader.StatementReader.reopen.Goals as goal

pub returns-clause-gives : goal.returns-clause-gives
returns-clause-gives c = λ _.
    subst (λ (h : Held). GivesReopened h c.args.place (record { lexer = c.reopen.new.self; parser = c.reopen-2.new.self })) c.self.view_is
    (gives-reopened (record { lexer = c.self.inside.lexer; parser = c.self.inside.parser }) c.args.place c.reopen.new.self
    c.reopen-2.new.self (c.if-not-reopen.ensures.history refl) c.reopen-2.ensures.as_then)

pub returns-clause-between : goal.returns-clause-between
returns-clause-between c = λ _. between-reopened c.self.inside.lexer c.reopen.new.self c.args.place _ c.reopen-2.new.self
    (c.if-not-reopen.ensures.held refl) c.reopen-2.ensures.held
