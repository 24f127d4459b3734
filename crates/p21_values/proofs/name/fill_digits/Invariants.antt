use Rattle.std.proofs.Common.{◌≡◌, ◌-◌, ◌^◌, ◌<◌, ◌≤◌, ◌++◌, drop}
use Rattle.p21_spec_basics.proofs.LastDigit.{leading}
use Rattle.p21_spec_basics.specs.Digits.{plain_digits}
use Rattle.p21_values.proofs.name.fill_digits.Given as goal

-- what is left has at most as many digits as there is room, and stands before the digits so far
abbrev pub invariant-loop-rest : goal.invariant-loop-rest
invariant-loop-rest l = record {
  low : 0 < l.start;
  high : l.start ≤ 20;
  room : l.rest < 10 ^ (l.start - 1);
  digits : plain_digits l.number ≡ leading l.rest ++ drop l.start l.text;
}

abbrev pub decreases-loop-rest : goal.decreases-loop-rest
decreases-loop-rest l = l.rest
