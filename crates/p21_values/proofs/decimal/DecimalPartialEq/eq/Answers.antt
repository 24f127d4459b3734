use Rattle.std.proofs.Common.{ap, of_z, arith}
use Rattle.std.proofs.lemmas.Int.{ints}
use Rattle.std.proofs.lemmas.Bool.Decides.{same_from_decides}
use mir.Syntax.{w16}
use Rattle.p21_values.proofs.StoredDecimals.{decimal_eq_decides, other_exponent, other_sign, ratio_decides, same_digits, stored_decides}
use Rattle.p21_values.proofs.decimal.DecimalPartialEq.eq.Goals as goal

pub returns-then-self-other-clause-same : goal.returns-then-self-other-clause-same
returns-then-self-other-clause-same c =
    let s = c.self in
    let o = c.other in
    ratio_decides _ _ _ _ _ _ s.invariant o.invariant _ _ s.view_is o.view_is _ (stored_decides _ _ _ _ _ _ s.invariant o.invariant _ _ s.view_is o.view_is _ (other_sign _ _ _ _ c.if-self-other.true))

pub returns-then-self-other-2-clause-eq : goal.returns-then-self-other-2-clause-eq
returns-then-self-other-2-clause-eq c =
    let s = c.self in
    let o = c.other in
    same_from_decides _ _ (stored_decides _ _ _ _ _ _ s.invariant o.invariant _ _ s.view_is o.view_is _ (other_exponent _ _ _ _ (λ e. c.if-self-other-2.true (ap (of_z w16) e)))) (decimal_eq_decides _ _)

pub returns-then-self-other-2-clause-same : goal.returns-then-self-other-2-clause-same
returns-then-self-other-2-clause-same c =
    let s = c.self in
    let o = c.other in
    ratio_decides _ _ _ _ _ _ s.invariant o.invariant _ _ s.view_is o.view_is _ (stored_decides _ _ _ _ _ _ s.invariant o.invariant _ _ s.view_is o.view_is _ (other_exponent _ _ _ _ (λ e. c.if-self-other-2.true (ap (of_z w16) e))))

pub returns-clause-eq : goal.returns-clause-eq
returns-clause-eq c =
    let s = c.self in
    let o = c.other in
    same_from_decides _ _ (stored_decides _ _ _ _ _ _ s.invariant o.invariant _ _ s.view_is o.view_is _ (same_digits _ _ _ _ _ _ c.if-self-other.false (omega (arith, ints)) _ c.eq.ensures)) (decimal_eq_decides _ _)

pub returns-clause-same : goal.returns-clause-same
returns-clause-same c =
    let s = c.self in
    let o = c.other in
    ratio_decides _ _ _ _ _ _ s.invariant o.invariant _ _ s.view_is o.view_is _ (stored_decides _ _ _ _ _ _ s.invariant o.invariant _ _ s.view_is o.view_is _ (same_digits _ _ _ _ _ _ c.if-self-other.false (omega (arith, ints)) _ c.eq.ensures))
