use Rattle.std.proofs.Common.{◌∙◌, List, ℕ, ap, arith, drop, length, length-append, subst, sym, take}
use Rattle.std.proofs.Math.Seq.{drop-append_seam, take-append_seam}
use Rattle.p21_spec_basics.specs.Digits.{AllDigits}
use Rattle.p21_spec_exchange.proofs.Forms.{NoDigitFirst}
use Rattle.p21_scan.proofs.row.far_digits.Goals as goal

pub returns-clause-within : goal.returns-clause-within
returns-clause-within c =
    let split = c.split_digits.ensures in
    omega (arith, ap (λ (b : List ℕ). length b) split.bytes_are, length-append c.split_digits.result.0.now c.split_digits.result.1.now)

pub returns-clause-digits : goal.returns-clause-digits
returns-clause-digits c =
    let split = c.split_digits.ensures in
    let digits = c.split_digits.result.0.now in
    subst AllDigits (sym (ap (λ (b : List ℕ). take (length digits) b) split.bytes_are ∙ take-append_seam digits c.split_digits.result.1.now)) split.digits

pub returns-clause-ends : goal.returns-clause-ends
returns-clause-ends c =
    let split = c.split_digits.ensures in
    let digits = c.split_digits.result.0.now in
    subst NoDigitFirst (sym (ap (λ (b : List ℕ). drop (length digits) b) split.bytes_are ∙ drop-append_seam digits c.split_digits.result.1.now)) split.rest
