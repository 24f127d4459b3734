use Rattle.std.proofs.Common.{refl}
use Rattle.p21_spec_exchange.specs.Number.{exponent, no_exponent}
use Rattle.p21_scan.proofs.Numbers.{behind_mark, exponent_at, no_exponent_at}
use Rattle.p21_scan.proofs.number.scan_exponent.Goals as goal

pub returns-in-Some-scan_integer : goal.returns-in-Some-scan_integer
returns-in-Some-scan_integer c =
    let found = c.in-Some-scan_integer.ensures.some in
    (exponent found.sign c.in-Some-scan_integer.exponent.digits.now, (found.sign, refl, found.negative_is), exponent_at _ _ _ _ _ c.in-Some.ensures.some found)

pub returns-in-None : goal.returns-in-None
returns-in-None c = (no_exponent, refl, no_exponent_at _ c.requires (behind_mark _ _ c.in-Some.ensures.some c.in-None.ensures.none))
