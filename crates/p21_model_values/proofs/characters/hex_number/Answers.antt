use Rattle.std.proofs.Common.{◌≡◌, ◌+◌, ◌*◌, ℕ, ◌<◌, ◌^◌, get_or, length, Some, ap, subst, sym, ◌∙◌, arith}
use Rattle.p21_spec_basics.specs.Digits.{hex_digits}
use Rattle.p21_scan.specs.Hex.{AllHexDigits, hex_value}
use Rattle.p21_scan.proofs.HexRuns.{all_hex, digit_at, group_below, group_more, group_small}
use Rattle.p21_model_values.proofs.LedCharacters.{number-known}
use Rattle.p21_model_values.proofs.characters.hex_number.Goals as goal

pub overflow_mul-code : goal.overflow_mul-code
overflow_mul-code c = let small : c.loop-digit.code < 16 ^ 7 =
    group_below c.loop-digit.digit-index c.loop-digit.code (omega arith) c.loop-digit.invariant.small in omega arith

pub overflow_add-code : goal.overflow_add-code
overflow_add-code c =
    let small : c.loop-digit.code < 16 ^ 7 = group_below c.loop-digit.digit-index c.loop-digit.code (omega arith)
    c.loop-digit.invariant.small in
    omega (arith, small, c.hex_value.ensures.small, c.from.ensures)

pub returns-then-not-is_hex_digit : goal.returns-then-not-is_hex_digit
returns-then-not-is_hex_digit c code small is =
    let all = subst AllHexDigits (sym is) (all_hex (length c.args.digits.now) code) in
    let digit = sym (digit_at c.args.digits.now c.loop-digit.digit-index all (omega arith)) ∙ sym c.is_hex_digit.ensures
    ∙ c.if-not-is_hex_digit.true in
    cc

pub loop-digit-preserved : goal.loop-digit-preserved
loop-digit-preserved c =
    let i = c.loop-digit.digit-index in
    let code = c.loop-digit.code in
    let value : c.from.result ≡ hex_value (get_or c.args.digits.now i 0) = c.from.ensures ∙ c.hex_value.ensures.value in
    record {
      digits_are =
          group_more c.args.digits.now i code (omega arith) c.loop-digit.invariant.digits_are
          (sym c.is_hex_digit.ensures ∙ c.if-not-is_hex_digit.false) ∙ ap (λ (v : ℕ). hex_digits (i + 1) (code * 16 + v)) (sym value);
      small = group_small i code c.from.result c.loop-digit.invariant.small (omega (arith, c.from.ensures, c.hex_value.ensures.small));
    }

pub returns : goal.returns
returns c code small is =
    ap (λ n. Some n) (number-known c.args.digits.now c.loop-digit.digit-index c.loop-digit.code code (omega arith) (omega arith)
    c.loop-digit.invariant.digits_are c.loop-digit.invariant.small small is)
