use Rattle.std.proofs.Common.{Option, refl, subst}
use Rattle.p21_express_graph.specs.declared.number.EntityId.{EntityId}
use Rattle.p21_shorter_instances.proofs.Leaving.{begins-taken, err-handed}
use Rattle.p21_shorter_instances.proofs.Whole.{external-taken}
use Rattle.p21_shorter_instances.specs.TakenParameters.{TakesOpening}
use Rattle.p21_shorter_instances.proofs.instance.begin_instance.Goals as goal

pub returns-in-Some-opening-clause-some : goal.returns-in-Some-opening-clause-some
returns-in-Some-opening-clause-some c =
    let s = c.args.schema.now in
    let opened = subst (λ (o : Option EntityId). TakesOpening s o c.in-Some.behind.now c.in_ok-opening.inside.now
    c.append_name_and_equals.new.draft c.append_opening.new.draft) c.in-Some-opening.is c.in_ok-opening.ensures.some in
    record {
      keyed = c.in-Some.behind.now;
      headed = c.append_name_and_equals.new.draft;
      head = c.in-Some.ensures.some;
      opened = opened;
      needs = refl;
    }

pub returns-in_ok-at-in-None-clause-some : goal.returns-in_ok-at-in-None-clause-some
returns-in_ok-at-in-None-clause-some c =
    let s = c.args.schema.now in
    let opened = subst (λ (o : Option EntityId). TakesOpening s o c.in-Some.behind.now c.in_ok-opening.inside.now
    c.append_name_and_equals.new.draft c.append_opening.new.draft) c.in-None.is c.in_ok-opening.ensures.some in
    let h = c.in_ok-at-in-None.ensures.some in (
      h.entities,
      h.numbered,
      external-taken s h.entities h.usual c.in-Some.number c.args.bytes.now _ _ _ c.args.taken.now _ _ _
          c.in-Some.ensures.some opened h.takes,
    )

pub returns-in-Some-opening-clause-mark : goal.returns-in-Some-opening-clause-mark
returns-in-Some-opening-clause-mark c = begins-taken _ _ _ _ _ _ _ c.in-Some.ensures.some

pub returns-in_ok-at-in-None-clause-mark : goal.returns-in_ok-at-in-None-clause-mark
returns-in_ok-at-in-None-clause-mark c = begins-taken _ _ _ _ _ _ _ c.in-Some.ensures.some

pub returns-in_err-opening-clause-at_mark : goal.returns-in_err-opening-clause-at_mark
returns-in_err-opening-clause-at_mark c =
    err-handed _ c.from_residual.result _ c.from_residual.ensures.1 (λ same. begins-taken _ _ _ _ _ _ _ c.in-Some.ensures.some)

pub returns-in_err-at-in-None-clause-at_mark : goal.returns-in_err-at-in-None-clause-at_mark
returns-in_err-at-in-None-clause-at_mark c =
    err-handed _ c.from_residual-in_err-at-in-None.result _ c.from_residual-in_err-at-in-None.ensures.1
    (λ same. begins-taken _ _ _ _ _ _ _ c.in-Some.ensures.some)
