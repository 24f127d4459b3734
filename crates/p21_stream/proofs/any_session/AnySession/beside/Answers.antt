use Rattle.std.proofs.Common.{ap, ◌∙◌}
use Rattle.p21_spec_laws.specs.Beside.{earlier_of}
use Rattle.p21_spec_laws.specs.Keeping.{Kept}
use Rattle.p21_spec_laws.specs.Stored.{beside}
use Rattle.p21_stream.proofs.any_session.AnySession.beside.Goals as goal

pub beside-requires-clause-keeps : goal.beside-requires-clause-keeps
beside-requires-clause-keeps c = let (s, limits, bytes, whole) = c.requires.whole in (s, limits, whole.given, whole.keeps)

pub start-requires : goal.start-requires
start-requires c = (beside (earlier_of c.args.earlier), c.beside.ensures)

pub returns-clause-lines : goal.returns-clause-lines
returns-clause-lines c none = ap (λ (k : Kept). k.lines) (c.start.ensures.kept ∙ c.beside.ensures)
