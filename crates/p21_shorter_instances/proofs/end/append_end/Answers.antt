use Rattle.p21_shorter_instances.proofs.end.append_end.Goals as goal

pub returns-in-None-clause-some : goal.returns-in-None-clause-some
returns-in-None-clause-some c = rw c.in-None.ensures.none at c.append_separated_end.ensures.some

pub returns-in-None-clause-none : goal.returns-in-None-clause-none
returns-in-None-clause-none c = rw c.in-None.ensures.none at c.append_separated_end.ensures.none
