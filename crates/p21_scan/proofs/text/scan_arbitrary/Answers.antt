use Rattle.p21_scan.proofs.Directives.{arbitrary_at}
use Rattle.p21_scan.proofs.text.scan_arbitrary.Goals as goal

pub returns : goal.returns
returns c = arbitrary_at _ _ _ c.in_ok-code.ensures.some
