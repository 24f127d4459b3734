use Rattle.p21_spec_laws.specs.Stored.{without_lines}
use Rattle.p21_stream.proofs.any_session.AnySession.counting.Goals as goal

pub start-requires : goal.start-requires
start-requires c = (without_lines, c.counting.ensures)
