use Rattle.std.proofs.Common.{subst, sym}
use Rattle.p21_shorter_instances.specs.Steps.{IsPlanOf}
use Rattle.p21_shorter_instances.proofs.plan.Plan.prepare.Goals as goal

pub returns-in_err-put_row-clause-plan : goal.returns-in_err-put_row-clause-plan
returns-in_err-put_row-clause-plan c = λ are. c.put_row.ensures c.args.schema.now
    (subst (IsPlanOf c.args.schema.now) (sym c.self.view_is) are) c.in_ok-row.ensures

pub returns-in_err-start-clause-plan : goal.returns-in_err-start-clause-plan
returns-in_err-start-clause-plan c = λ are. c.put_row.ensures c.args.schema.now
    (subst (IsPlanOf c.args.schema.now) (sym c.self.view_is) are) c.in_ok-row.ensures

pub returns-clause-plan : goal.returns-clause-plan
returns-clause-plan c = λ are. c.put_row.ensures c.args.schema.now (subst (IsPlanOf c.args.schema.now) (sym c.self.view_is) are)
    c.in_ok-row.ensures

pub returns-in_err-note_entity-clause-plan : goal.returns-in_err-note_entity-clause-plan
returns-in_err-note_entity-clause-plan c = subst (IsPlanOf c.args.schema.now) (sym c.self.view_is)

pub returns-then-not-may_stand_alone-clause-plan : goal.returns-then-not-may_stand_alone-clause-plan
returns-then-not-may_stand_alone-clause-plan c = subst (IsPlanOf c.args.schema.now) (sym c.self.view_is)
