use Rattle.std.proofs.Common.{arith}
use Rattle.p21_scan.proofs.Directives.{page_at}
use Rattle.p21_scan.proofs.text.scan_page.Goals as goal

pub returns : goal.returns
returns c = page_at _ _ _ (omega arith, omega arith) c.in_ok-byte.ensures.cases.0
