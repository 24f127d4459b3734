use Rattle.std.proofs.Common.{◌≡◌, length}
use Rattle.p21_express_lexemes.specs.Skipping.{skip, between}
use Rattle.p21_express_lexemes.proofs.skip.behind_separators.Given as goal

-- what is left leads on as the bytes do
abbrev pub invariant-loop-rest : goal.invariant-loop-rest
invariant-loop-rest l = skip between l.bytes ≡ skip between l.rest

abbrev pub decreases-loop-rest : goal.decreases-loop-rest
decreases-loop-rest l = length l.rest
