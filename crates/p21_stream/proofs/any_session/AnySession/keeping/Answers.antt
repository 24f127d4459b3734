use Rattle.std.proofs.Common.{ap, ◌∙◌}
use Rattle.p21_spec_laws.specs.Keeping.{Kept}
use Rattle.p21_spec_laws.specs.Stored.{with_lines}
use Rattle.p21_stream.proofs.any_session.AnySession.keeping.Goals as goal

pub start-requires : goal.start-requires
start-requires c = (with_lines, c.new.ensures)

pub returns-clause-lines : goal.returns-clause-lines
returns-clause-lines c none = ap (λ (k : Kept). k.lines) (c.start.ensures.kept ∙ c.new.ensures)
