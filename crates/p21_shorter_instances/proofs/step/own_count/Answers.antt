use Rattle.p21_shorter_instances.proofs.Steps.{owner_is}
use Rattle.p21_shorter_instances.proofs.step.own_count.Goals as goal

pub attribute_count-requires : goal.attribute_count-requires
attribute_count-requires c = owner_is c.args.schema.now c.holds_together.ensures c.args.entity.0 c.args.owner.0 c.requires.owner
    c.requires.entity
