use Rattle.p21_scan.proofs.Words.{no_item-end}
use Rattle.p21_scan.proofs.word.scan_item.Goals as goal

pub returns-in_err-behind-2-clause-none : goal.returns-in_err-behind-2-clause-none
returns-in_err-behind-2-clause-none c =
    rw c.from_residual-in_err-behind-2.ensures (no_item-end c.args.bytes.now c.in_ok-behind.field-0.now c.in_ok-word.word.now c.in_ok-word.rest.now c.in_ok-behind.ensures.some c.in_ok-word.ensures.some c.in_err-behind-2.ensures.none)
