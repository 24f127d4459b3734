use Rattle.p21_c.proofs.Numbering.{claimed}
use Rattle.p21_c.proofs.numbered.numbering_claim.Goals as goal

pub returns-clause-claim : goal.returns-clause-claim
returns-clause-claim c = claimed c.args.schema.now c.headline.ensures.formed c.usual-limits.result c.usual-limits.ensures
    c.headline.ensures.limits
