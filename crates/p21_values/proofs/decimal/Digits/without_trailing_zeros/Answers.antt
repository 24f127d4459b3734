use Rattle.std.proofs.Common.{arith}
use Rattle.std.proofs.lemmas.Bool.Decides.{nat_tests}
use Rattle.p21_scan.proofs.DigitRuns.{digits_parts}
use Rattle.p21_values.proofs.Significands.{end_empty, end_kept}
use Rattle.p21_values.proofs.decimal.Digits.without_trailing_zeros.Goals as goal
use Rattle.p21_values.proofs.decimal.Digits.without_trailing_zeros.Goals.{then-is_empty, else-is_empty}

pub without_trailing_zeros-fraction-requires : goal.without_trailing_zeros-fraction-requires
without_trailing_zeros-fraction-requires c = (digits_parts c.args.self.whole.now c.args.self.fraction.now c.requires).1

pub without_trailing_zeros-whole-requires : goal.without_trailing_zeros-whole-requires
without_trailing_zeros-whole-requires c = (digits_parts c.args.self.whole.now c.args.self.fraction.now c.requires).0

pub returns : goal.returns
returns c =
    let fraction = c.without_trailing_zeros-fraction.ensures in
    elim c.if-is_empty.branch [
      | then-is_empty w ↦ rw w.whole-is (end_empty _ _ _ _ (grind (arith, nat_tests)) fraction w.without_trailing_zeros-whole.ensures)
      | else-is_empty w ↦ rw w.whole-is (end_kept _ _ _ (grind (arith, nat_tests)) fraction)
    ]
