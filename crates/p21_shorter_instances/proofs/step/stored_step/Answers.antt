use Rattle.std.proofs.Common.{Bool, refl, subst}
use Rattle.p21_express_graph.specs.Meaning.{type_use}
use Rattle.p21_shorter_instances.specs.Prepared.{stored_step}
use Rattle.p21_shorter_instances.specs.Steps.{Prepares}
use Rattle.p21_shorter_instances.proofs.step.stored_step.Goals as goal

pub returns-then-are_reals : goal.returns-then-are_reals
returns-then-are_reals c = λ at prepares. (
  subst (λ (b : Bool). Prepares c.args.schema.now at (stored_step b (type_use c.args.last))) c.if-optional.false prepares,
  c.if-are_reals.ensures refl,
)
