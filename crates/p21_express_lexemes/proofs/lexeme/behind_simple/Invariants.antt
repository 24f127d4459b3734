use Rattle.std.proofs.Common.{length}
use Rattle.p21_express_lexemes.proofs.Strings.{Leads}
use Rattle.p21_express_lexemes.proofs.lexeme.behind_simple.Given as goal

abbrev pub invariant-loop-rest : goal.invariant-loop-rest
invariant-loop-rest l = Leads l.bytes l.rest

abbrev pub decreases-loop-rest : goal.decreases-loop-rest
decreases-loop-rest l = length l.rest
