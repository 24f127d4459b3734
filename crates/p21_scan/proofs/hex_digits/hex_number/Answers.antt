use Rattle.std.proofs.Common.{◌≡◌, ◌+◌, ◌*◌, ℕ, ◌<◌, ◌^◌, get_or, ap, sym, ◌∙◌, arith}
use Rattle.p21_spec_basics.specs.Digits.{hex_digits}
use Rattle.p21_scan.specs.Hex.{hex_value}
use Rattle.p21_scan.proofs.HexRuns.{digit_at, group_below, group_more, group_small}
use Rattle.p21_scan.proofs.hex_digits.hex_number.Goals as goal

pub overflow_mul-code : goal.overflow_mul-code
overflow_mul-code c = let small : c.loop-digit.code < 16 ^ 7 = group_below c.loop-digit.digit-index c.loop-digit.code (omega arith) c.loop-digit.invariant.small in omega arith

pub overflow_add-code : goal.overflow_add-code
overflow_add-code c =
    let small : c.loop-digit.code < 16 ^ 7 = group_below c.loop-digit.digit-index c.loop-digit.code (omega arith) c.loop-digit.invariant.small in
    omega (arith, small, c.hex_value.ensures.small, c.from.ensures)

pub returns-then-not-is_hex_digit-clause-none : goal.returns-then-not-is_hex_digit-clause-none
returns-then-not-is_hex_digit-clause-none c =
    λ all. let digit = sym (digit_at c.args.digits.now c.loop-digit.digit-index all (omega arith)) ∙ sym c.is_hex_digit.ensures ∙ c.if-not-is_hex_digit.true in cc

pub loop-digit-preserved : goal.loop-digit-preserved
loop-digit-preserved c =
    let i = c.loop-digit.digit-index in
    let code = c.loop-digit.code in
    let value : c.from.result ≡ hex_value (get_or c.args.digits.now i 0) = c.from.ensures ∙ c.hex_value.ensures.value in
    record {
      digits_are =
          group_more c.args.digits.now i code (omega arith) c.loop-digit.invariant.digits_are (sym c.is_hex_digit.ensures ∙ c.if-not-is_hex_digit.false) ∙ ap (λ (v : ℕ). hex_digits (i + 1) (code * 16 + v)) (sym value);
      small = group_small i code c.from.result c.loop-digit.invariant.small (omega (arith, c.from.ensures, c.hex_value.ensures.small));
    }
