use Rattle.std.proofs.Common.{◌≡◌, ℤ, ◌-◌, length, take, Ok, subst, sym, arith, to_z, of_z}
use Rattle.std.proofs.lemmas.Int.{ints}
use mir.Syntax.{w32}
use Rattle.p21_spec_basics.proofs.PlainDigits.{digits_append}
use Rattle.p21_spec_exchange.specs.Number.{SpellsWhole}
use Rattle.p21_scan.proofs.Numbers.{spells_integer}
use Rattle.p21_values.proofs.Readings.{reads_front}
use Rattle.p21_values.proofs.prefix.read_number.Goals as goal

pub returns-in-Ok : goal.returns-in-Ok
returns-in-Ok c =
    let (at, other) = rw c.in_default.is at c.in_ok-number.ensures.some in
    let rest = c.in_ok-number.rest.now in
    subst (λ (z : ℤ). SpellsWhole (take (length c.args.bytes.now - length rest) c.args.bytes.now) z) (sym (c.in-Ok.ensures {u = tt})) (spells_integer _ _ _ _ at)

pub of_digits-requires-2 : goal.of_digits-requires-2
of_digits-requires-2 c =
    let (power, has, at) = rw c.in-Some.is at c.in_ok-number.ensures.some in digits_append _ _ at.whole_at.are_digits at.are_digits

pub returns-in-Ok-of_digits : goal.returns-in-Ok-of_digits
returns-in-Ok-of_digits c =
    let (power, has, at) = rw c.in-Some.is at c.in_ok-number.ensures.some in
    let k = c.in_ok-exponent.exponent in
    let value = c.in_ok-exponent.ensures {u = tt} in
    let back : to_z w32 (of_z w32 k) ≡ k = omega (arith, ints, value.small) in
    reads_front _ _ _ _ _ power at k (Ok c.in-Ok-of_digits.number) (value.value power has) (rw back at (c.in-Ok-of_digits.ensures {u = tt}))
