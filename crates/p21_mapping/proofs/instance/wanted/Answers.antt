use Rattle.std.proofs.Common.{rules}
use Rattle.p21_mapping.proofs.Choosing.{name-at_entity, name-at_select}
use Rattle.p21_mapping.proofs.instance.wanted.Goals as goal

pub returns-then-offers_entity : goal.returns-then-offers_entity
returns-then-offers_entity c = name-at_select c.args.schema.now c.args.base.now _ c.in-Select.is (c.offers_entity.ensures.0 (search rules))

pub returns-in-Entity : goal.returns-in-Entity
returns-in-Entity c = name-at_entity c.args.schema.now c.args.base.now c.in-Plain.of _ c.in-Plain.is c.in-Entity.is
