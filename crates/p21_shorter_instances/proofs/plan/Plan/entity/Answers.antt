use Rattle.std.proofs.Common.{subst, sym}
use Rattle.p21_shorter_instances.specs.Steps.{IsPlanOf}
use Rattle.p21_shorter_instances.proofs.plan.Plan.entity.Goals as goal

pub returns-clause-plan : goal.returns-clause-plan
returns-clause-plan c = subst (IsPlanOf c.args.schema.now) (sym c.self.view_is)
