use Rattle.p21_stream.proofs.Claiming.{claimed}
use Rattle.p21_stream.proofs.claim.headline.Goals as goal

pub returns : goal.returns
returns c = record {
  claim = claimed c.args.schema.now c.well_formed-2.ensures c.args.limits
      (c.record_canonical.ensures.within, c.file_canonical.ensures.within);
  formed = c.well_formed-2.ensures;
  limits = (c.record_canonical.ensures.within, c.file_canonical.ensures.within);
}
