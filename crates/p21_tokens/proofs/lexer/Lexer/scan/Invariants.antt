use Rattle.std.proofs.Common.{◌-◌, length}
use Rattle.p21_tokens.proofs.Scanning.{Along}
use Rattle.p21_tokens.proofs.lexer.Lexer.scan.Given as goal

-- the bytes so far gave no token
abbrev pub invariant-loop-taken : goal.invariant-loop-taken
invariant-loop-taken l = Along l.initial.self l.self l.piece l.taken

abbrev pub decreases-loop-taken : goal.decreases-loop-taken
decreases-loop-taken l = length l.piece - l.taken
