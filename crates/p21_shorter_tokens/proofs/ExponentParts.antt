-- The exponent that stands behind the digits of a real.
use Rattle.std.proofs.Common.{ℕ, pos, List, refl, arith}
use Rattle.p21_spec_exchange.proofs.Forms.{NoDigitFirst}
use Rattle.p21_spec_exchange.specs.Number.{no_exponent}
use Rattle.p21_scan.proofs.Numbers.{no_exponent_at, without_mark}
use Rattle.p21_scan.specs.Digits.{BeginsWithoutByte}
use Rattle.p21_shorter_tokens.specs.Numbers.{EndsReal}

pub no_exponent-ends : (bytes : List ℕ) → NoDigitFirst bytes → BeginsWithoutByte 69 bytes → EndsReal bytes (pos 0) bytes
no_exponent-ends bytes h k = record {
  power = no_exponent;
  power_at = no_exponent_at bytes h (without_mark bytes k);
  value_is = (tt, refl);
  small = omega arith;
  no_exponent = k;
}
