use Rattle.p21_stream_statements.proofs.OpenBytes.{Along}
use Rattle.p21_stream_log.proofs.front.lexer_behind.Given as goal

-- the lexer has taken what stands in front of the rest, and given no `;`
abbrev pub invariant-loop : goal.invariant-loop
invariant-loop l = Along l.statement l.rest l.lexer
