use Rattle.std.proofs.Common.{refl}
use Rattle.p21_shorter_instances.proofs.Leaving.{ok-to}
use Rattle.p21_shorter_instances.proofs.Values.{chosen-front, select-known}
use Rattle.p21_shorter_instances.proofs.choice.append_chosen.Goals as goal

pub offers_entity-requires : goal.offers_entity-requires
offers_entity-requires c = select-known c.args.schema.now c.args.select.0 c.requires

pub returns-clause-some : goal.returns-clause-some
returns-clause-some c =
    ok-to _ (λ count. chosen-front c.args.schema.now c.args.select.0 c.args.bytes.now count _ _ (c.if-not-offers_entity.ensures.0 refl))
    c.append_reference.ensures.some
