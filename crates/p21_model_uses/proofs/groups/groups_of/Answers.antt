use Rattle.std.proofs.Common.{◌≡◌, ℕ, List, ap, arith, length, refl, sym, subst}
use Rattle.p21_model_uses.proofs.Grouped.{group-ends, no-groups, one-more-group}
use Rattle.p21_model_uses.specs.Tables.{AreGroupsOf}
use Rattle.p21_model_uses.specs.UseRows.{UseRow}
use Rattle.p21_model_uses.specs.declared.groups.Used.{Used}
use Rattle.p21_model_uses.proofs.groups.groups_of.Goals as goal

pub loop-at-init : goal.loop-at-init
loop-at-init c = (
  subst (λ (us : List Used). AreGroupsOf c.args.rows.now 0 us) (sym c.new-used.ensures.items) (no-groups c.args.rows.now),
  omega arith,
)

pub loop-at-smaller : goal.loop-at-smaller
loop-at-smaller c =
    let up = group-ends c.args.rows.now c.loop-at.at c.end_of-end.result (0, 0, 0, 0) c.row_at-row.result.0
    (ap (λ (u : UseRow). u.0) c.row_at-row.ensures) c.loop-at-test.true c.end_of-end.ensures.end in
    omega (arith, up, c.loop-at-test.true, c.end_of-end.ensures.bound)

pub loop-at-preserved : goal.loop-at-preserved
loop-at-preserved c = (
  subst (λ (us : List Used). AreGroupsOf c.args.rows.now c.end_of-end.result us) (sym c.in_ok-push.ensures.items)
      (one-more-group c.args.rows.now c.loop-at.at c.end_of-end.result (0, 0, 0, 0) c.row_at-row.result.0 c.loop-at.used.items
      c.in-Some.group c.requires c.loop-at-test.true c.end_of-end.ensures.bound (ap (λ (u : UseRow). u.0) c.row_at-row.ensures)
      c.end_of-end.ensures.end c.in-Some.ensures.some.0 c.in-Some.ensures.some.1 c.in-Some.ensures.some.2 c.loop-at.invariant.0),
  c.end_of-end.ensures.bound,
)

pub returns-clause-groups : goal.returns-clause-groups
returns-clause-groups c =
    let at_end : c.loop-at.at ≡ length c.args.rows.now = omega (arith, c.loop-at-test.false, c.loop-at.invariant.1) in
    let all = subst (λ (n : ℕ). AreGroupsOf c.args.rows.now n c.loop-at.used.items) at_end c.loop-at.invariant.0 in
    subst (λ (us : List Used). AreGroupsOf c.args.rows.now (length c.args.rows.now) us) (sym c.shrink_to_fit.ensures.items) all

pub returns-in_default-clause-fault : goal.returns-in_default-clause-fault
returns-in_default-clause-fault c =
    let up = group-ends c.args.rows.now c.loop-at.at c.end_of-end.result (0, 0, 0, 0) c.row_at-row.result.0
    (ap (λ (u : UseRow). u.0) c.row_at-row.ensures) c.loop-at-test.true c.end_of-end.ensures.end in
    let far = c.in_default.ensures.none refl (omega (arith, up)) in
    omega (arith, far, c.end_of-end.ensures.bound)
