use Rattle.p21_c.proofs.Modelled.{values-told}
use Rattle.p21_c.proofs.model_instances.p21_instance_values.Goals as goal

pub returns : goal.returns
returns c =
    values-told _ c.in-Some.model.accepted.now c.in-Some.model.schema.now c.args.name c.tell_values.result c.args.count.now
    c.in-Some-instance.instance c.in-Some.ensures c.in-Some-instance.ensures.name c.in-Some-instance.ensures.schema
    c.in-Some-instance.ensures.some c.attributes.result c.tell_values.new.room c.attributes.ensures.told c.tell_values.ensures
