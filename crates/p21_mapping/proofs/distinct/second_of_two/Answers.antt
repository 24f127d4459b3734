use Rattle.p21_mapping_values.proofs.Elements.{known_at}
use Rattle.p21_mapping.proofs.distinct.second_of_two.Goals as goal

pub append_present-requires : goal.append_present-requires
append_present-requires c = known_at c.args.schema.now c.args.values.now _ _ c.value-item.is c.loop-value-test.true c.requires
