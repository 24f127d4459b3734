use Rattle.p21_shorter_instances.proofs.entity.append_opening.Goals as goal

pub returns-in-None-clause-some : goal.returns-in-None-clause-some
returns-in-None-clause-some c = rw c.in-None.ensures.none at c.append_other_opening.ensures.some

pub returns-in-None-clause-none : goal.returns-in-None-clause-none
returns-in-None-clause-none c = rw c.in-None.ensures.none at c.append_other_opening.ensures.none
