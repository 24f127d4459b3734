use Rattle.std.proofs.Common.{◌≡◌, take}
use Rattle.p21_spec_basics.specs.Digits.{number}
use Rattle.p21_scan.proofs.digits.number_in_turn.Given as goal

-- the number of the digits so far
abbrev pub invariant-loop-at : goal.invariant-loop-at
invariant-loop-at l = l.value ≡ number (take l.at l.digits)
