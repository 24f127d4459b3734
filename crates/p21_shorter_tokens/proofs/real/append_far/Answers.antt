use Rattle.std.proofs.Common.{◌≡◌, ℕ, ℤ, pos, List, [], Ok, true, length, take, refl, subst, arith, to_z, of_z}
use Rattle.std.proofs.lemmas.Int.{ints}
use Rattle.std.proofs.lemmas.List.{take_all}
use mir.Syntax.{w32}
use Rattle.p21_spec_basics.specs.Digits.{number}
use Rattle.p21_spec_exchange.specs.Number.{signed}
use Rattle.p21_values.proofs.StoredDecimals.{reads_whole}
use Rattle.p21_values.specs.RealComponents.{digits_ratio}
use Rattle.p21_shorter_tokens.proofs.RealTokens.{are-all, real-token, whole_number}
use Rattle.p21_shorter_tokens.proofs.WholeTokens.{whole-at_front}
use Rattle.p21_shorter_tokens.specs.Numbers.{AppendsNumber, a_real, a_whole}
use Rattle.p21_shorter_tokens.proofs.real.append_far.Goals as goal

all_of : (ds : List ℕ) → take (length ds) ds ≡ ds
all_of ds = take_all (length ds) ds (omega arith)

pub append_decimal-requires-clause-whole : goal.append_decimal-requires-clause-whole
append_decimal-requires-clause-whole c =
    let (at, other) = rw c.in_default.is at c.in_ok-number.ensures.some in are-all _ at.are_digits

pub returns-in_default-clause-some : goal.returns-in_default-clause-some
returns-in_default-clause-some c =
    let (at, other) = rw c.in_default.is at c.in_ok-number.ensures.some in
    let negative = c.in_ok-number.number.negative in
    let digits = c.in_ok-number.number.whole.now in
    let z : ℤ = signed negative (number digits) in
    let written : AppendsNumber true (digits_ratio negative digits [] (pos 0)) c.args.draft.now c.append_decimal.new.draft =
    subst (λ (w : List ℕ). AppendsNumber true (digits_ratio negative w [] (pos 0)) c.args.draft.now c.append_decimal.new.draft) (all_of digits) (c.if-not-append_decimal.ensures {u = tt}) in
    let value = whole_number z written.0 (reads_whole negative digits z (Ok written.0) refl written.1) in
    a_whole z written.0 c.if-not-wholes.false (whole-at_front c.args.bytes.now digits c.in_ok-number.rest.now negative at other) value.0 value.1 value.2 written.2

pub exponent_value-requires : goal.exponent_value-requires
exponent_value-requires c =
    let (power, has, at) = rw c.in-Some.is at c.in_ok-number.ensures.some in (power, has, at.power_at.is_exponent)

pub append_decimal-requires-2-clause-whole : goal.append_decimal-requires-2-clause-whole
append_decimal-requires-2-clause-whole c =
    let (power, has, at) = rw c.in-Some.is at c.in_ok-number.ensures.some in are-all _ at.whole_at.are_digits

pub append_decimal-requires-2-clause-fraction : goal.append_decimal-requires-2-clause-fraction
append_decimal-requires-2-clause-fraction c =
    let (power, has, at) = rw c.in-Some.is at c.in_ok-number.ensures.some in are-all _ at.are_digits

pub returns-clause-some : goal.returns-clause-some
returns-clause-some c =
    let (power, has, at) = rw c.in-Some.is at c.in_ok-number.ensures.some in
    let negative = c.in_ok-number.number.negative in
    let whole = c.in_ok-number.number.whole.now in
    let fraction = c.in-Some.decimals.fraction.now in
    let k = c.in_ok-exponent.exponent in
    let value = c.in_ok-exponent.ensures {u = tt} in
    let back : to_z w32 (of_z w32 k) ≡ k = omega (arith, ints, value.small) in
    let passed : AppendsNumber true (digits_ratio negative (take (length whole) whole) (take (length fraction) fraction) (to_z w32 (of_z w32 k))) c.args.draft.now c.append_decimal-2.new.draft = c.if-not-append_decimal-2.ensures {u = tt} in
    let cut : AppendsNumber true (digits_ratio negative whole fraction (to_z w32 (of_z w32 k))) c.args.draft.now c.append_decimal-2.new.draft =
    subst (λ (f : List ℕ). AppendsNumber true (digits_ratio negative whole f (to_z w32 (of_z w32 k))) c.args.draft.now c.append_decimal-2.new.draft) (all_of fraction)
    (subst (λ (w : List ℕ). AppendsNumber true (digits_ratio negative w (take (length fraction) fraction) (to_z w32 (of_z w32 k))) c.args.draft.now c.append_decimal-2.new.draft) (all_of whole) passed) in
    let written = subst (λ (z : ℤ). AppendsNumber true (digits_ratio negative whole fraction z) c.args.draft.now c.append_decimal-2.new.draft) back cut in
    a_real written.0 (record {
      stands = real-token c.args.bytes.now whole fraction c.in_ok-number.rest.now negative power k written.0 at (value.value power has) (c.begins_exponent.ensures.0 c.if-begins_exponent.false) written.1;
      appended = written.2;
    })
