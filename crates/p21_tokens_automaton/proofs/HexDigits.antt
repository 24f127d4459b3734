-- Hex digits, their values and the numbers that rows of them stand for.
use Rattle.std.proofs.Common.{IsTrue, ◌≡◌, ℕ, ◌+◌, ◌*◌, ◌/◌, ◌%◌, ◌^◌, ◌<◌, ◌≤◌, [], ◌∷◌, refl, sym, ap, ◌∙◌, arith, lit<}
use Rattle.std.proofs.Math.Nat.{pow-le-pow_right}
use Rattle.p21_spec_basics.specs.Digits.{hex_digit, hex_digits}
use Rattle.p21_scan.specs.Hex.{hex_value, is_hex_digit}
use Rattle.p21_scan.proofs.HexRuns.{hex_back}

pub power-small : (limit count value : ℕ) → count ≤ limit → value < 16 ^ count → value < 16 ^ limit
power-small limit count value h k = let more : 16 ^ count ≤ 16 ^ limit = pow-le-pow_right (lit< tt) h in omega arith

pub one-digit : (byte : ℕ) → IsTrue (is_hex_digit byte) → byte ∷ [] ≡ hex_digits 1 (hex_value byte)
one-digit byte h =
    let own = hex_back byte h in
    let same : hex_value byte % 16 ≡ hex_value byte = omega (arith, own.0) in
    ap (λ x. x ∷ []) (sym own.1 ∙ ap hex_digit (sym same))

pub two-digits : (high low : ℕ) → high < 16 → low < 16 → hex_digits 2 (high % 16 * 16 + low) ≡ hex_digit high ∷ hex_digit low ∷ []
two-digits high low h k =
    let first : (high % 16 * 16 + low) / 16 % 16 ≡ high = omega arith in
    let second : (high % 16 * 16 + low) % 16 ≡ low = omega arith in
    rw (first, second) refl
