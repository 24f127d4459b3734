use Rattle.std.proofs.Common.{subst}
use Rattle.p21_stream.specs.Claim.{Claim}
use Rattle.p21_c.proofs.accepting.claim_under.Goals as goal

pub returns : goal.returns
returns c = subst (Claim c.args.schema.now) c.usual-limits.ensures c.headline.ensures.claim
