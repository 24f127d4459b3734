use Rattle.std.proofs.Common.{◌≡◌, replicate, take}
use Rattle.p21_shorter_tokens.proofs.digits.leading_zeros.Given as goal

-- what was passed are zeros
abbrev pub invariant-loop-i : goal.invariant-loop-i
invariant-loop-i l = take l.i l.bytes ≡ replicate l.i 48
