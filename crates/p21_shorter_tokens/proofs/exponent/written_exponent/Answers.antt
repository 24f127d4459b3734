use Rattle.std.proofs.Common.{◌≡◌, arith, to_z, of_z}
use Rattle.std.proofs.lemmas.Int.{ints}
use mir.Syntax.{w32}
use Rattle.p21_shorter_tokens.proofs.exponent.written_exponent.Goals as goal

pub exponent_value-requires : goal.exponent_value-requires
exponent_value-requires c =
    let (power, has, at) = c.scan_exponent.ensures in (power, has, at.is_exponent)

pub returns : goal.returns
returns c =
    let (power, has, at) = c.scan_exponent.ensures in
    let value = c.in_ok-value.ensures {u = tt} in
    let k = c.in_ok-value.value in
    let back : to_z w32 (of_z w32 k) ≡ k = omega (arith, ints, value.small) in
    rw back (record { power = power; power_at = at; value_is = value.value power has; small = value.small; no_exponent = c.begins_exponent.ensures.0 c.if-begins_exponent.false })
