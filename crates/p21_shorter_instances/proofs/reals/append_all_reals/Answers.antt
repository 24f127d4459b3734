use Rattle.std.proofs.Common.{[], ◌∷◌, ap, arith, length, refl}
use Rattle.p21_shorter_instances.proofs.RealElements.{reals-enclosed}
use Rattle.p21_shorter_instances.proofs.reals.append_all_reals.Goals as goal
use Rattle.p21_values.proofs.Continuing.{continues-join}

pub returns-clause-some : goal.returns-clause-some
returns-clause-some c =
    let reals = c.in_ok-count.ensures.some in
    reals-enclosed _ c.in_ok-count.count c.args.bytes.now _ _ c.in_ok-count.rest.now c.args.draft.now _ _ _ c.requires
    (c.if-not-allows_count.ensures.0 refl) c.in_ok-inside.ensures.some.0 c.in_ok-inside.ensures.some.1 reals.reals reals.closes
    reals.appended

pub returns-in_err-count-clause-none : goal.returns-in_err-count-clause-none
returns-in_err-count-clause-none c = rw c.from_residual-in_err-count.ensures
    (continues-join _ _ _ (40 ∷ [], c.in_ok-inside.ensures.some.1) c.in_err-count.ensures.draft)

pub returns-then-not-allows_count-clause-none : goal.returns-then-not-allows_count-clause-none
returns-then-not-allows_count-clause-none c = continues-join _ _ _ (40 ∷ [], c.in_ok-inside.ensures.some.1) c.in_ok-count.ensures.draft

pub overflow_sub-result : goal.overflow_sub-result
overflow_sub-result c = omega (arith, c.in_ok-count.ensures.shorter, ap length c.in_ok-inside.ensures.some.0)
