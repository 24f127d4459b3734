use Rattle.p21_stream_statements.proofs.Stepping.{live-new}
use Rattle.p21_stream_statements.proofs.statement_reader.StatementReader.new.Goals as goal

pub returns-clause-live : goal.returns-clause-live
returns-clause-live c = live-new (record { lexer = c.new.result; parser = c.new-2.result }) c.new.ensures.stands c.new-2.ensures.stands

pub returns-clause-between : goal.returns-clause-between
returns-clause-between c = record { lexer = c.new.ensures.rests; parser = c.new-2.ensures.between }
