use Rattle.std.proofs.Common.{◌≡◌, ◌+◌, ◌*◌, ◌<◌, ◌^◌, ℕ, length, ap, arith}
use Rattle.std.proofs.lemmas.Bool.Decides.{nat_tests}
use Rattle.std.proofs.lemmas.Int.{ints}
use Rattle.std.proofs.Math.Nat.{zero-mul}
use Rattle.p21_spec_basics.specs.Digits.{number}
use Rattle.p21_tolerance.proofs.Spellings.{has-few, has-few-before, has-power, has-short, has-some, parts-known, spelled}
use Rattle.p21_tolerance.proofs.tolerance.Tolerance.of.Goals as goal
use Rattle.p21_tolerance.proofs.tolerance.Tolerance.of.Goals.{else-is_empty-via-else-is_empty}
use Rattle.p21_tolerance.proofs.tolerance.Tolerance.of.Goals.{else-is_empty-via-then-is_empty+else-is_empty-2}

pub returns-then-is_empty-2-clause-none : goal.returns-then-is_empty-2-clause-none
returns-then-is_empty-2-clause-none c t s =
    let whole = c.split_digits.result.0.now in
    let fraction = c.split_fraction.result.0.now in
    let written = c.split_fraction.result.1.now in
    let split = c.split_digits.ensures in
    let known = parts-known c.args.text.now whole c.split_digits.result.1.now fraction written t split.bytes_are split.digits split.rest
    c.split_fraction.ensures s in
    let some = has-some c.args.text.now whole fraction written t s known in
    let first : length whole ≡ 0 = (let e = c.is_empty.ensures in let f = c.if-is_empty.true in grind (arith, nat_tests)) in
    let second : length fraction ≡ 0 = (let e = c.is_empty-then-is_empty.ensures in let f = c.if-is_empty-2.true in grind
    (arith, nat_tests)) in
    omega (arith, some, first, second)

pub returns-then-fraction-ge1000000000-clause-none : goal.returns-then-fraction-ge1000000000-clause-none
returns-then-fraction-ge1000000000-clause-none c t s =
    let whole = c.split_digits.result.0.now in
    let fraction = c.split_fraction.result.0.now in
    let written = c.split_fraction.result.1.now in
    let split = c.split_digits.ensures in
    let known = parts-known c.args.text.now whole c.split_digits.result.1.now fraction written t split.bytes_are split.digits split.rest
    c.split_fraction.ensures s in
    omega (arith, has-short c.args.text.now whole fraction written t s known, c.if-fraction-ge1000000000.true)

pub returns-in_default-clause-none : goal.returns-in_default-clause-none
returns-in_default-clause-none c t s =
    let whole = c.split_digits.result.0.now in
    let fraction = c.split_fraction.result.0.now in
    let written = c.split_fraction.result.1.now in
    let split = c.split_digits.ensures in
    let known = parts-known c.args.text.now whole c.split_digits.result.1.now fraction written t split.bytes_are split.digits split.rest
    c.split_fraction.ensures s in
    c.in_default.ensures.none s.exponent (has-power c.args.text.now whole fraction written t s known)

pub returns-in_default-with_digits-clause-none : goal.returns-in_default-with_digits-clause-none
returns-in_default-with_digits-clause-none c t s =
    let whole = c.split_digits.result.0.now in
    let fraction = c.split_fraction.result.0.now in
    let written = c.split_fraction.result.1.now in
    let split = c.split_digits.ensures in
    let known = parts-known c.args.text.now whole c.split_digits.result.1.now fraction written t split.bytes_are split.digits split.rest
    c.split_fraction.ensures s in
    omega (
      arith,
      has-few-before c.args.text.now whole fraction written t s known,
      c.in_default-with_digits.ensures.none,
      zero-mul (10 ^ length whole),
    )

pub returns-in_default-with_digits-2-clause-none : goal.returns-in_default-with_digits-2-clause-none
returns-in_default-with_digits-2-clause-none c t s =
    let whole = c.split_digits.result.0.now in
    let fraction = c.split_fraction.result.0.now in
    let written = c.split_fraction.result.1.now in
    let split = c.split_digits.ensures in
    let known = parts-known c.args.text.now whole c.split_digits.result.1.now fraction written t split.bytes_are split.digits split.rest
    c.split_fraction.ensures s in
    let front : c.in-Some-with_digits.front ≡ number whole = omega (
      arith,
      c.in-Some-with_digits.ensures.some,
      zero-mul
          (10 ^ length whole),
    ) in
    let few = has-few c.args.text.now whole fraction written t s known in
    let many = c.in_default-with_digits-2.ensures.none in
    let same = ap (λ (n : ℕ). n * 10 ^ length fraction) front in
    omega (arith, few, many, same)

pub returns-clause-some : goal.returns-clause-some
returns-clause-some c =
    let whole = c.split_digits.result.0.now in
    let fraction = c.split_fraction.result.0.now in
    let split = c.split_digits.ensures in
    let some : 0 < length whole + length fraction = elim c.else-is_empty.branch [
      | else-is_empty-via-then-is_empty+else-is_empty-2 w ↦
          let e = w.is_empty-then-is_empty.ensures in let f = w.if-is_empty-2.false in grind (arith, nat_tests)
      | else-is_empty-via-else-is_empty w ↦ let e = c.is_empty.ensures in let f = w.if-is_empty.false in grind (arith, nat_tests)
    ] in
    let short = c.if-fraction-ge1000000000.false in
    spelled c.args.text.now whole c.split_digits.result.1.now fraction c.split_fraction.result.1.now _ c.in-Some.exponent
    c.in-Some-with_digits.front split.bytes_are split.digits c.split_fraction.ensures some short c.in-Some.ensures.some
    c.in-Some-with_digits.ensures.some c.in-Some-with_digits-2.ensures.some c.in-Some-with_digits-2.ensures.few
    (omega (arith, ints, short, c.in-Some.ensures.small))
