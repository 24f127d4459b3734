use Rattle.std.proofs.Common.{◌+◌, arith}
use Rattle.p21_scan.proofs.DigitRuns.{number_more, number_take}
use Rattle.p21_scan.proofs.name.long_number.Goals as goal

pub returns-in_err-checked_mul-clause-none : goal.returns-in_err-checked_mul-clause-none
returns-in_err-checked_mul-clause-none c =
    let i = c.loop-digit.digit-index in
    let digits = c.args.digits.now in
    rw c.from_residual.ensures (omega (arith, c.in_err-checked_mul.ensures, number_more digits i c.loop-digit-test.true, number_take (i + 1) digits))

pub returns-in_err-number-clause-none : goal.returns-in_err-number-clause-none
returns-in_err-number-clause-none c =
    let i = c.loop-digit.digit-index in
    let digits = c.args.digits.now in
    rw c.from_residual-in_err-number.ensures (omega (arith, c.in_err-number.ensures, c.in_ok-checked_mul.ensures, number_more digits i c.loop-digit-test.true, number_take (i + 1) digits))

pub loop-digit-preserved : goal.loop-digit-preserved
loop-digit-preserved c =
    omega (arith, c.in_ok-checked_mul.ensures, c.in_ok-number.ensures, number_more c.args.digits.now c.loop-digit.digit-index c.loop-digit-test.true)
