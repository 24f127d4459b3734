use Rattle.std.proofs.Common.{arith}
use Rattle.std.proofs.lemmas.Bool.Decides.{nat_tests}
use Rattle.p21_scan.proofs.NamesAt.{no_digits-behind}
use Rattle.p21_scan.proofs.name.scan_name.Goals as goal

pub returns-then-is_empty-clause-none : goal.returns-then-is_empty-clause-none
returns-then-is_empty-clause-none c =
    let split = c.split_near_digits.ensures in
    no_digits-behind c.args.bytes.now c.in_ok-behind.field-0.now c.split_near_digits.result.0.now c.split_near_digits.result.1.now c.in_ok-behind.ensures.some split.bytes_are split.digits split.rest (grind (arith, nat_tests))
