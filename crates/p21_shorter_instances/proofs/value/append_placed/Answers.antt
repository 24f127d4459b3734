use Rattle.p21_shorter_instances.proofs.Values.{taken-front, taken-shorter}
use Rattle.p21_shorter_instances.proofs.value.append_placed.Goals as goal

pub returns-clause-some : goal.returns-clause-some
returns-clause-some c = taken-front c.args.schema.now _ 64 c.args.bytes.now _ _ _ c.in_ok-rest.ensures.some

pub overflow_sub-result : goal.overflow_sub-result
overflow_sub-result c = taken-shorter c.args.schema.now _ 64 c.args.bytes.now _ _ _ c.in_ok-rest.ensures.some
