use Rattle.p21_shorter_instances.proofs.Values.{select-known}
use Rattle.p21_shorter_instances.proofs.choice.offered_type.Goals as goal

pub offers-requires : goal.offers-requires
offers-requires c = select-known c.args.schema.now c.args.select.0 c.requires
