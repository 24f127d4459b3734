use Rattle.std.proofs.Common.{◌^◌}
use Rattle.p21_tolerance.proofs.SumsLeft.{sum-apart}
use Rattle.p21_tolerance.specs.Places.{value_of}
use Rattle.p21_tolerance.proofs.sums.Sum.taken.Goals as goal

pub returns-clause-value : goal.returns-clause-value
returns-clause-value c =
    let first = c.taken-first_digit in
    let second = c.taken-second_digit in
    sum-apart first.result.0 second.result.0 c.args.self.times c.from.result (value_of c.args.self.first) (value_of c.args.self.second)
    (value_of first.result.1) (value_of second.result.1) (10 ^ c.args.place) first.ensures.value second.ensures.value c.from.ensures
