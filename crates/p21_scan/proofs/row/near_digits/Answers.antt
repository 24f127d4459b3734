use Rattle.std.proofs.Common.{◌≤◌, ℕ, arith, drop, length, subst, sym, take}
use lib.Count.{count_trailing_zeros}
use Rattle.p21_spec_basics.specs.Digits.{AllDigits}
use Rattle.p21_spec_exchange.proofs.Forms.{NoDigitFirst}
use Rattle.p21_scan.proofs.DigitRows.{row-digits, row-ends, row-within}
use Rattle.p21_scan.proofs.row.near_digits.Goals as goal

pub returns-then-others-ne0-clause-within : goal.returns-then-others-ne0-clause-within
returns-then-others-ne0-clause-within c =
    subst (λ (m : ℕ). count_trailing_zeros 64 m ≤ length c.args.bytes.now) (sym c.no_digits-others.ensures) (row-within c.args.bytes.now (omega arith) (omega (arith, c.no_digits-others.ensures)))

pub returns-then-others-ne0-clause-digits : goal.returns-then-others-ne0-clause-digits
returns-then-others-ne0-clause-digits c =
    subst (λ (m : ℕ). AllDigits (take (count_trailing_zeros 64 m) c.args.bytes.now)) (sym c.no_digits-others.ensures) (row-digits c.args.bytes.now (omega arith) (omega (arith, c.no_digits-others.ensures)))

pub returns-then-others-ne0-clause-ends : goal.returns-then-others-ne0-clause-ends
returns-then-others-ne0-clause-ends c =
    subst (λ (m : ℕ). NoDigitFirst (drop (count_trailing_zeros 64 m) c.args.bytes.now)) (sym c.no_digits-others.ensures) (row-ends c.args.bytes.now (omega arith) (omega (arith, c.no_digits-others.ensures)))
