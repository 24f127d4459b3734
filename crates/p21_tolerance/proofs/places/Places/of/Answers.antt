use Rattle.p21_tolerance.proofs.DigitsLeft.{both-bytes}
use Rattle.p21_tolerance.proofs.places.Places.of.Goals as goal

pub returns-clause-readable : goal.returns-clause-readable
returns-clause-readable c = record {
  bytes = both-bytes c.args.whole.now c.args.fraction.now c.type_inv.whole c.type_inv.fraction;
  short = c.requires;
}
