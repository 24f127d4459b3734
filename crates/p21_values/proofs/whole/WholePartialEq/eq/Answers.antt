use Rattle.std.proofs.lemmas.Bool.Decides.{Decides-int_eq, same_from_decides}
use Rattle.p21_values.proofs.StoredWholes.{other_sign, same_sign, whole_decides}
use Rattle.p21_values.proofs.whole.WholePartialEq.eq.Goals as goal

pub returns-then-self-other-clause-same : goal.returns-then-self-other-clause-same
returns-then-self-other-clause-same c =
    let s = c.self in
    let o = c.other in
    whole_decides _ _ _ _ s.invariant o.invariant _ _ s.view_is o.view_is _ (same_sign _ _ _ _ c.if-self-other.true _ c.eq.ensures)

pub returns-then-self-other-clause-eq : goal.returns-then-self-other-clause-eq
returns-then-self-other-clause-eq c = same_from_decides _ _ (returns-then-self-other-clause-same c) (Decides-int_eq _ _)

pub returns-else-self-other-clause-same : goal.returns-else-self-other-clause-same
returns-else-self-other-clause-same c =
    let s = c.self in
    let o = c.other in
    whole_decides _ _ _ _ s.invariant o.invariant _ _ s.view_is o.view_is _ (other_sign _ _ _ c.if-self-other.false)

pub returns-else-self-other-clause-eq : goal.returns-else-self-other-clause-eq
returns-else-self-other-clause-eq c = same_from_decides _ _ (returns-else-self-other-clause-same c) (Decides-int_eq _ _)
