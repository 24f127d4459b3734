use Rattle.p21_shorter_instances.proofs.RealElements.{marked-continues, marked-plain}
use Rattle.p21_shorter_instances.proofs.reals.append_next_real.Goals as goal

pub returns-in-Some-clause-some : goal.returns-in-Some-clause-some
returns-in-Some-clause-some c =
    marked-plain c.args.bytes.now c.behind_blanks-front.result.now c.in-Some.count _ _ c.behind_blanks-front.ensures.passes
    c.in-Some.ensures.some

pub returns-in-Some-clause-draft : goal.returns-in-Some-clause-draft
returns-in-Some-clause-draft c = marked-continues _ _ _ _ c.in-Some.ensures.some

pub returns-in-None-clause-some : goal.returns-in-None-clause-some
returns-in-None-clause-some c = rw c.in-None.ensures.none at c.append_other_next.ensures.some

pub returns-in-None-clause-draft : goal.returns-in-None-clause-draft
returns-in-None-clause-draft c = rw c.in-None.ensures.none at c.append_other_next.ensures.draft
