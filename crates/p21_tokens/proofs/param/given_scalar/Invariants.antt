use Rattle.p21_tokens.specs.Finding.{PendingBytes, left_over}
use Rattle.p21_tokens.proofs.param.given_scalar.Given as goal

-- the lexer has taken what stands in front of the rest
abbrev pub invariant-loop-rest : goal.invariant-loop-rest
invariant-loop-rest l = PendingBytes l.lexer l.text l.rest l.found

-- a call takes bytes, or gives the first token
abbrev pub decreases-loop-rest : goal.decreases-loop-rest
decreases-loop-rest l = left_over l.rest l.found
