use Rattle.std.proofs.Common.{◌≡◌, ◌-◌, ◌*◌, ◌^◌, ◌≤◌, length, take}
use Rattle.p21_spec_basics.specs.Digits.{number}
use Rattle.p21_scan.proofs.digits.without_trailing_zeros.Given as goal

-- what is kept lacks as many zeros as digits
abbrev pub invariant-loop-kept : goal.invariant-loop-kept
invariant-loop-kept l = record {
  shorter : l.kept ≤ length l.digits;
  same : number l.digits ≡ number (take l.kept l.digits) * 10 ^ (length l.digits - l.kept);
}

abbrev pub decreases-loop-kept : goal.decreases-loop-kept
decreases-loop-kept l = l.kept
