use Rattle.p21_tolerance.specs.Numbers.{number_in}
use Rattle.p21_tolerance.proofs.SameNumbers.{number-positive, within-numbers}
use Rattle.p21_tolerance.proofs.SumsLeft.{both-ways}
use Rattle.p21_tolerance.proofs.within.are_within.Goals as goal

pub returns : goal.returns
returns c p q first second =
    both-ways c.are_digits_within.ensures (within-numbers c.in-Some.first c.in-Some-number.second c.args.tolerance (number_in p)
    (number_in q)
    (number-positive p) (number-positive q) (c.in-Some.ensures p first) (c.in-Some-number.ensures q second))
