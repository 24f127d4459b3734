use Rattle.std.proofs.Common.{◌≡◌, ap, length, arith, to_z, of_z}
use Rattle.std.proofs.lemmas.Bool.Decides.{nat_tests}
use Rattle.std.proofs.lemmas.Int.{ints}
use mir.Syntax.{w32}
use Rattle.p21_spec_basics.proofs.PlainDigits.{digits_append}
use Rattle.p21_scan.proofs.Numbers.{no_point, no_real, whole_real}
use Rattle.p21_values.proofs.Readings.{exponent_too_long, reads_all}
use Rattle.p21_values.proofs.decimal.Decimal.read.Goals as goal

pub returns-in_default : goal.returns-in_default
returns-in_default c = λ f. no_real _ c.in_default.ensures.none f

pub returns-in_default-decimals : goal.returns-in_default-decimals
returns-in_default-decimals c =
    let (at, other) = rw c.in_default-decimals.is at c.in-Some.ensures.some in λ f. no_point _ _ _ _ at other f

pub returns-then-not-is_empty : goal.returns-then-not-is_empty
returns-then-not-is_empty c =
    let (power, has, at) = rw c.in-Some-decimals.is at c.in-Some.ensures.some in
    λ f. let none = ap length (whole_real _ _ _ _ _ power at f) in grind (arith, nat_tests)

pub returns-in_default-exponent_value : goal.returns-in_default-exponent_value
returns-in_default-exponent_value c =
    let (power, has, at) = rw c.in-Some-decimals.is at c.in-Some.ensures.some in
    exponent_too_long _ _ _ _ _ power at (grind (arith, nat_tests)) (c.in_default-exponent_value.ensures.value power has)

pub of_digits-requires : goal.of_digits-requires
of_digits-requires c =
    let (power, has, at) = rw c.in-Some-decimals.is at c.in-Some.ensures.some in digits_append _ _ at.whole_at.are_digits at.are_digits

pub returns : goal.returns
returns c =
    let (power, has, at) = rw c.in-Some-decimals.is at c.in-Some.ensures.some in
    let k = c.in-Some-exponent_value.exponent in
    let back : to_z w32 (of_z w32 k) ≡ k = omega (arith, ints, c.in-Some-exponent_value.ensures.small) in
    reads_all _ _ _ _ _ power at k _ (grind (arith, nat_tests)) (c.in-Some-exponent_value.ensures.value power has) (rw back at c.of_digits.ensures)
