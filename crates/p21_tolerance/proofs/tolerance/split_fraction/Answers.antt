use Rattle.p21_tolerance.proofs.Spellings.{none-pointed, pointed}
use Rattle.p21_tolerance.proofs.tolerance.split_fraction.Goals as goal

pub returns-in_default : goal.returns-in_default
returns-in_default c = none-pointed c.args.bytes.now c.requires c.in_default.ensures.none

pub returns : goal.returns
returns c =
    let found = c.split_digits.ensures in
    pointed c.args.bytes.now c.in-Some.digits.now c.split_digits.result.0.now c.split_digits.result.1.now c.in-Some.ensures.some
    found.bytes_are found.digits found.rest
