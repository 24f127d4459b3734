use Rattle.p21_c.proofs.Modelled.{entities-told}
use Rattle.p21_c.proofs.model_instances.p21_instance_entities.Goals as goal

pub returns : goal.returns
returns c =
    entities-told _ c.in-Some.model.accepted.now c.in-Some.model.schema.now c.args.name c.tell_entities.result c.args.count.now
    c.in-Some-instance.instance c.in-Some.ensures c.in-Some-instance.ensures.name c.in-Some-instance.ensures.schema
    c.in-Some-instance.ensures.some c.entities.result c.tell_entities.new.room c.entities.ensures.told c.tell_entities.ensures
