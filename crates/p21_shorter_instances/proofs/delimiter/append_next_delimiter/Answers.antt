use Rattle.std.proofs.Common.{[], refl}
use Rattle.p21_shorter_instances.proofs.delimiter.append_next_delimiter.Goals as goal

pub returns-in-Some-clause-some : goal.returns-in-Some-clause-some
returns-in-Some-clause-some c = (([], c.in-Some.ensures.some.0, ([], tt, refl)), c.in-Some.ensures.some.1)

pub returns-in-None-clause-some : goal.returns-in-None-clause-some
returns-in-None-clause-some c = rw c.in-None.ensures.none at c.append_distant_delimiter.ensures.some

pub returns-in-None-clause-none : goal.returns-in-None-clause-none
returns-in-None-clause-none c = rw c.in-None.ensures.none at c.append_distant_delimiter.ensures.none
