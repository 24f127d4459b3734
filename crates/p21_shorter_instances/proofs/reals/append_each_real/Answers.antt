use Rattle.std.proofs.Common.{◌+◌, ◌∙◌, List, ℕ, [], ◌∷◌, arith, ap, length, length-drop, refl, subst, sym}
use Rattle.std.proofs.lemmas.List.{append-nil}
use Rattle.std.specs.List.{slice_range}
use Rattle.p21_spec_basics.proofs.Members.{rest_is}
use Rattle.p21_shorter_instances.proofs.RealElements.{closing-taken, comma-taken, no-reals, reals-ahead, reals-end, reals-next}
use Rattle.p21_shorter_instances.specs.TakenValues.{PassesDelimiter}
use Rattle.p21_shorter_instances.proofs.reals.append_each_real.Goals as goal
use Rattle.p21_values.proofs.Continuing.{continues-join}

pub returns-in-Some-clause-some : goal.returns-in-Some-clause-some
returns-in-Some-clause-some c = record {
  behind = c.args.bytes.now;
  between = c.args.draft.now;
  reals = no-reals c.args.bytes.now c.args.draft.now;
  closes = ([], c.in-Some.ensures.some.0, ([], tt, refl));
  appended = c.in-Some.ensures.some.1;
}

pub returns-in-Some-clause-shorter : goal.returns-in-Some-clause-shorter
returns-in-Some-clause-shorter c = omega (arith, ap length c.in-Some.ensures.some.0)

pub returns-in-Some-clause-draft : goal.returns-in-Some-clause-draft
returns-in-Some-clause-draft c = (41 ∷ [], c.in-Some.ensures.some.1)

pub loop-size-init : goal.loop-size-init
loop-size-init c = rw c.in_default.ensures.none
    (reals-ahead c.args.bytes.now c.args.draft.now, ([], sym (append-nil c.args.draft.now)), omega arith)

pub loop-size-smaller : goal.loop-size-smaller
loop-size-smaller c =
    let m = c.in_ok-size.ensures.some in
    let some = m.some in
    let within = m.within in
    let front = c.loop-size.front.now in
    omega (arith, some, within, ap length (rest_is front c.in_ok-size.size), length-drop c.in_ok-size.size front)

pub loop-size-preserved : goal.loop-size-preserved
loop-size-preserved c =
    let m = c.in_ok-size.ensures.some in
    let some = m.some in
    let within = m.within in
    let front = c.loop-size.front.now in
    let size = c.in_ok-size.size in
    let comma = comma-taken m.behind m.rest m.between c.append_next_real.new.draft m.takes (λ e. c.if-mark-eq41.false (m.last ∙ e)) in (
      reals-next c.args.bytes.now c.args.draft.now (c.loop-size.count + 1) m.behind (slice_range front size (length front)) m.between
          c.append_next_real.new.draft
          (c.loop-size.invariant.0 m.inside m.behind m.between m.passes m.real)
          (subst (λ (l : List ℕ). PassesDelimiter 44 m.behind l) (sym m.rest_is ∙ sym (rest_is front size)) comma.0) comma.1,
      continues-join _ _ _ c.loop-size.invariant.1 c.in_ok-size.ensures.draft,
      omega (arith, some, within, c.loop-size.invariant.2, ap length (rest_is front size), length-drop size front),
    )

pub returns-then-mark-eq41-clause-some : goal.returns-then-mark-eq41-clause-some
returns-then-mark-eq41-clause-some c =
    let m = c.in_ok-size.ensures.some in
    let closing = closing-taken m.behind m.rest m.between c.append_next_real.new.draft m.takes (sym m.last ∙ c.if-mark-eq41.true) in
    record {
      behind = m.behind;
      between = m.between;
      reals = reals-end c.args.bytes.now c.args.draft.now (c.loop-size.count + 1) m.behind m.between
          (c.loop-size.invariant.0 m.inside m.behind m.between m.passes m.real);
      closes = subst (λ (l : List ℕ). PassesDelimiter 41 m.behind l) (sym m.rest_is
          ∙ sym (rest_is c.loop-size.front.now c.in_ok-size.size)) closing.0;
      appended = closing.1;
    }
