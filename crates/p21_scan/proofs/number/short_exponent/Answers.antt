use Rattle.std.proofs.Common.{arith}
use Rattle.p21_scan.proofs.DigitRuns.{significant_long}
use Rattle.p21_scan.proofs.number.short_exponent.Goals as goal

pub returns-then-significant-gt9-clause-none : goal.returns-then-significant-gt9-clause-none
returns-then-significant-gt9-clause-none c =
    let kept = c.without_leading_zeros-significant.ensures in
    let long = significant_long _ 9 kept.are_digits kept.first c.if-significant-gt9.true in
    omega (arith, long, kept.same)
