use Rattle.std.proofs.Common.{arith}
use Rattle.std.proofs.lemmas.Bool.Decides.{nat_tests}
use Rattle.p21_scan.proofs.DigitRuns.{digits_parts}
use Rattle.p21_values.proofs.Significands.{front_empty, front_kept}
use Rattle.p21_values.proofs.decimal.Digits.without_leading_zeros.Goals as goal
use Rattle.p21_values.proofs.decimal.Digits.without_leading_zeros.Goals.{then-is_empty, else-is_empty}

pub without_leading_zeros-whole-requires : goal.without_leading_zeros-whole-requires
without_leading_zeros-whole-requires c = (digits_parts c.args.self.whole.now c.args.self.fraction.now c.requires).0

pub without_leading_zeros-fraction-requires : goal.without_leading_zeros-fraction-requires
without_leading_zeros-fraction-requires c = (digits_parts c.args.self.whole.now c.args.self.fraction.now c.requires).1

pub returns : goal.returns
returns c =
    let digits = digits_parts c.args.self.whole.now c.args.self.fraction.now c.requires in
    let whole = c.without_leading_zeros-whole.ensures in
    elim c.if-is_empty.branch [
      | then-is_empty w ↦ rw w.fraction-is (front_empty _ _ _ _ (grind (arith, nat_tests)) whole w.without_leading_zeros-fraction.ensures)
      | else-is_empty w ↦ rw w.fraction-is (front_kept _ _ _ (grind (arith, nat_tests)) digits.1 whole)
    ]
