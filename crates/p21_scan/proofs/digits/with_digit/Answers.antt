use Rattle.std.proofs.Common.{arith}
use Rattle.std.proofs.Math.Nat.{pow-le-pow_right}
use Rattle.p21_scan.proofs.DigitRuns.{digit_at, front-below, number_more}
use Rattle.p21_scan.proofs.digits.with_digit.Goals as goal

pub overflow_mul-result : goal.overflow_mul-result
overflow_mul-result c =
    let below = front-below c.args.digits.now c.args.at c.requires.are_digits (omega arith) in
    omega (arith, c.requires.front, below, pow-le-pow_right {n = 10} (omega arith) {i = c.args.at} {j = 17} (omega arith))

pub overflow_sub-result : goal.overflow_sub-result
overflow_sub-result c =
    let digit = digit_at c.args.digits.now c.args.at c.requires.are_digits c.requires.within in
    omega (arith, digit, c.from-code.ensures)

pub overflow_add-result : goal.overflow_add-result
overflow_add-result c =
    let below = front-below c.args.digits.now c.args.at c.requires.are_digits (omega arith) in
    let digit = digit_at c.args.digits.now c.args.at c.requires.are_digits c.requires.within in
    omega (arith, c.requires.front, c.from-code.ensures, digit, below, pow-le-pow_right {n = 10} (omega arith) {i = c.args.at} {j = 17} (omega arith))

pub returns : goal.returns
returns c = omega (arith, c.requires.front, c.from-code.ensures, number_more c.args.digits.now c.args.at c.requires.within)
