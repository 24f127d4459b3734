use Rattle.std.proofs.Common.{◌≡◌, take}
use Rattle.p21_spec_basics.specs.Digits.{number}
use Rattle.p21_scan.proofs.name.long_number.Given as goal

-- the number of the digits so far
abbrev pub invariant-loop-digit : goal.invariant-loop-digit
invariant-loop-digit l = l.number ≡ number (take l.digit-index l.digits)
