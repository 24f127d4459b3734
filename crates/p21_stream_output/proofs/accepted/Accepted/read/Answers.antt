use Rattle.p21_stream_output.proofs.Reading.{from-start}
use Rattle.p21_stream_output.proofs.accepted.Accepted.read.Goals as goal

pub returns-clause-whole : goal.returns-clause-whole
returns-clause-whole c = from-start c.args.self.now
