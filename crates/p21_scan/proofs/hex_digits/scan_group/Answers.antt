use Rattle.p21_scan.proofs.HexRuns.{no_group, too_short}
use Rattle.p21_scan.proofs.hex_digits.scan_group.Goals as goal

pub returns-in_err-digits-clause-none : goal.returns-in_err-digits-clause-none
returns-in_err-digits-clause-none c = rw c.from_residual.ensures (too_short _ _ c.in_err-digits.ensures.cases)

pub returns-in_err-code-clause-none : goal.returns-in_err-code-clause-none
returns-in_err-code-clause-none c = rw c.from_residual-in_err-code.ensures (no_group _ _ _ c.in_ok-digits.ensures.cases.1 c.in_err-code.ensures.none)
