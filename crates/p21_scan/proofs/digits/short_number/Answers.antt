use Rattle.std.proofs.Common.{arith}
use Rattle.p21_scan.proofs.DigitRuns.{below_power}
use Rattle.p21_scan.proofs.digits.short_number.Goals as goal

pub overflow_cast-result : goal.overflow_cast-result
overflow_cast-result c = let small = below_power c.args.digits.now 9 c.requires.are_digits c.requires.short in omega (arith, c.number_of.ensures, small)

pub returns-clause-small : goal.returns-clause-small
returns-clause-small c = let small = below_power c.args.digits.now 9 c.requires.are_digits c.requires.short in omega (arith, c.number_of.ensures, small)
