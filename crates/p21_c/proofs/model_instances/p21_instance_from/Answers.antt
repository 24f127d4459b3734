use Rattle.std.proofs.Common.{refl}
use Rattle.p21_c.proofs.Modelled.{instance-from, no-instance-from}
use Rattle.p21_c.proofs.model_instances.p21_instance_from.Goals as goal

pub returns-in_default-first_from : goal.returns-in_default-first_from
returns-in_default-first_from c = no-instance-from _ c.in-Some.model.accepted.now c.in-Some.model.schema.now c.args.least _
    c.in-Some.ensures (c.in_default-first_from.ensures.none refl)

pub returns : goal.returns
returns c =
    instance-from _ c.in-Some.model.accepted.now c.in-Some.model.schema.now c.args.least c.in-Some-first_from.found.name
    c.in-Some-first_from.found.line _ c.line_of.result c.in-Some.ensures c.line_of.ensures c.in-Some-first_from.ensures.from
    c.in-Some-first_from.ensures.some c.in-Some-first_from.ensures.between
