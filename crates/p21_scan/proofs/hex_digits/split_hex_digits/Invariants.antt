use Rattle.std.proofs.Common.{take}
use Rattle.p21_scan.specs.Hex.{AllHexDigits}
use Rattle.p21_scan.proofs.hex_digits.split_hex_digits.Given as goal

-- what was passed are hex digits
abbrev pub invariant-loop-i : goal.invariant-loop-i
invariant-loop-i l = AllHexDigits (take l.i l.bytes)
