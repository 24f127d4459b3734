use Rattle.p21_stream.proofs.Canonicals.{canonical-of_read}
use Rattle.p21_test_numbered.proofs.tests.accepted.Goals as goal

pub returns-in-Ok : goal.returns-in-Ok
returns-in-Ok c = (canonical-of_read _ c.headline.ensures.formed _ c.headline.ensures.limits _ _ c.in-Ok.accepted c.in-Ok.ensures.ok).canonical.is_accepted
