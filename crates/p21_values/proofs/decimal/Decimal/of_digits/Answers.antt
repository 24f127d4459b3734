use Rattle.std.proofs.Common.{◌≡◌, arith, to_z, of_z, sym}
use Rattle.std.proofs.lemmas.Int.{ints}
use mir.Syntax.{w16}
use Rattle.p21_values.proofs.StoredDecimals.{reads_digits, reads_far, stored_of_digits}
use Rattle.p21_values.proofs.decimal.Decimal.of_digits.Goals as goal

pub returns-in_default : goal.returns-in_default
returns-in_default c =
    let front = c.without_leading_zeros-significant.ensures in
    reads_far c.args.negative _ _ _ _ _ front.are_digits front.first (omega (arith, c.len-count.ensures)) (sym front.same) (omega (arith, ints, c.len-count.ensures)) c.in_default.ensures.none

pub invariant_of-result-2 : goal.invariant_of-result-2
invariant_of-result-2 c =
    let k = c.in-Some.exponent in
    let back : to_z w16 (of_z w16 k) ≡ k = omega (arith, ints) in
    rw (c.in_ok-digits.ensures, back) (stored_of_digits _ _ _ _ k c.without_leading_zeros-significant.ensures (omega (arith, c.len-count.ensures)) c.without_trailing_zeros.ensures c.in-Some.ensures.in_range)

pub returns : goal.returns
returns c =
    let k = c.in-Some.exponent in
    let back : to_z w16 (of_z w16 k) ≡ k = omega (arith, ints) in
    rw (c.in_ok-digits.ensures, back) (reads_digits _ _ _ _ _ _ k c.without_leading_zeros-significant.ensures (omega (arith, c.len-count.ensures)) c.without_trailing_zeros.ensures (omega (arith, ints, c.in-Some.ensures.some, c.len-count.ensures)) c.in-Some.ensures.in_range)
