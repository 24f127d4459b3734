use Rattle.p21_stream_numbered.proofs.Sources.{claimed}
use Rattle.p21_stream_numbered.proofs.numbering.numbering_headline.Goals as goal

pub returns-clause-claim : goal.returns-clause-claim
returns-clause-claim c = claimed c.args.schema.now c.headline.ensures.formed c.args.limits c.headline.ensures.limits
