use Rattle.std.proofs.Common.{arith, lit<, lit≤, ◌-◌}
use Rattle.p21_values.proofs.DigitLemmas.{last_digit_written, next_digit_written, tenth-below}
use Rattle.p21_values.proofs.name.fill_digits.Goals as goal

pub loop-rest-init : goal.loop-rest-init
loop-rest-init c = record {
  low = lit< tt;
  high = lit≤ tt;
  room = omega arith;
  digits = last_digit_written c.args.number 20 c.args.text.now c.told-text;
}

pub loop-rest-preserved : goal.loop-rest-preserved
loop-rest-preserved c =
    let i = c.loop-rest.invariant in
    let below = tenth-below c.loop-rest.rest (c.loop-rest.start - 1) c.loop-rest-test.true i.room in
    record {
      low = omega arith;
      high = omega arith;
      room = below.1;
      digits = next_digit_written c.args.number c.loop-rest.rest c.loop-rest.start c.loop-rest.text c.loop-rest-test.true i.low (omega arith) i.digits;
    }
