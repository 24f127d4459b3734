use Rattle.std.proofs.Common.{◌≡◌, ◌+◌, ◌*◌, ◌^◌, ◌<◌, take}
use Rattle.p21_spec_basics.specs.Digits.{number}
use Rattle.p21_tolerance.proofs.tolerance.with_digits.Given as goal

-- the number with the digits so far
abbrev pub invariant-loop-digit : goal.invariant-loop-digit
invariant-loop-digit l = record {
  all_is : l.all ≡ l.fn.front * 10 ^ l.digit-index + number (take l.digit-index l.digits);
  few : l.all < 10 ^ 18;
}
