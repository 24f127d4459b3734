use Rattle.std.proofs.Common.{sym, ◌∙◌, arith}
use Rattle.std.proofs.lemmas.Bool.Decides.{nat_tests}
use Rattle.p21_scan.proofs.Numbers.{no_integer}
use Rattle.p21_scan.proofs.number.scan_integer.Goals as goal

pub returns-then-is_empty-clause-none : goal.returns-then-is_empty-clause-none
returns-then-is_empty-clause-none c =
    let split = c.split_digits.ensures in
    no_integer _ _ _ (sym c.split_sign-negative.ensures.rest ∙ split.bytes_are) split.digits split.rest (grind (arith, nat_tests))
