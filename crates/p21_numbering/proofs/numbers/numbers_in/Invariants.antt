use Rattle.std.specs.Prelude.{◌+◌}
use Rattle.p21_numbering.proofs.GivenNames.{GetBelow}
use Rattle.p21_numbering.proofs.numbers.numbers_in.Given as goal

abbrev pub invariant-loop-k : goal.invariant-loop-k
invariant-loop-k l = GetBelow l.numbers l.order (λ j. j + 1) l.k
