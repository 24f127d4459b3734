use Rattle.std.proofs.Common.{◌≡◌, ◌≤◌, length}
use Rattle.p21_spec_basics.specs.Digits.{AllDigits, number}
use Rattle.p21_scan.proofs.digits.without_leading_zeros.Given as goal

-- what is left are digits of the same number
abbrev pub invariant-loop-rest : goal.invariant-loop-rest
invariant-loop-rest l = record {
  are_digits : AllDigits l.rest;
  shorter : length l.rest ≤ length l.digits;
  same : number l.rest ≡ number l.digits;
}

abbrev pub decreases-loop-rest : goal.decreases-loop-rest
decreases-loop-rest l = length l.rest
