use Rattle.std.proofs.Common.{List, refl, subst, arith, take}
use Rattle.std.proofs.lemmas.List.{take_all}
use Rattle.p21_spec_exchange.specs.Parameter.{more_tokens}
use Rattle.p21_spec_file.specs.ValueText.{with_commas}
use Rattle.p21_shorter_tokens.proofs.Parts.{stays-behind}
use Rattle.p21_shorter_instances.proofs.Leaving.{err-from}
use Rattle.p21_shorter_instances.proofs.Stepping.{each-in, mark-goes_on, needs-join, next-step, no-steps, step-goes_on}
use Rattle.p21_shorter_instances.specs.TakenParameters.{TakesSteps}
use Rattle.p21_shorter_instances.specs.declared.step.Step.{Step}
use Rattle.p21_shorter_instances.proofs.Values.{needs-same}
use Rattle.p21_shorter_instances.proofs.places.append_others.Goals as goal
use Rattle.p21_values.proofs.Continuing.{continues-same, continues-join}

pub loop-step-init : goal.loop-step-init
loop-step-init c = record {
  takes = no-steps c.args.schema.now more_tokens with_commas (take 0 c.args.steps.now) c.args.bytes.now c.args.taken.now refl refl refl;
  draft = continues-same _ _ refl;
  needs = needs-same _ _ refl;
}

pub append_place-requires : goal.append_place-requires
append_place-requires c = each-in _ _ _ _ c.step-item.is c.loop-step-test.true c.requires

pub returns-in_default-clause-draft : goal.returns-in_default-clause-draft
returns-in_default-clause-draft c = stays-behind _ _ _ c.loop-step.invariant.draft c.in_default.ensures.none

pub returns-in_err-rest-clause-draft : goal.returns-in_err-rest-clause-draft
returns-in_err-rest-clause-draft c =
    err-from _ (continues-join _ _ _ c.loop-step.invariant.draft
    (continues-join _ _ _ (mark-goes_on _ _ _ _ _ c.in-Some.ensures.some) c.in_err-rest.ensures.draft))

pub returns-in_err-rest-clause-needs : goal.returns-in_err-rest-clause-needs
returns-in_err-rest-clause-needs c = err-from _ (needs-join _ _ _ c.loop-step.invariant.needs c.in_err-rest.ensures.needs)

pub loop-step-preserved : goal.loop-step-preserved
loop-step-preserved c =
    let goes_on = step-goes_on _ _ _ _ _ _ (each-in _ _ _ _ c.step-item.is c.loop-step-test.true c.requires) c.in_ok-rest.ensures.some in
    record {
      takes = next-step c.args.schema.now c.args.steps.now _ _ c.args.bytes.now _ _ _ _ c.loop-step.taken _ _ c.step-item.is
          c.loop-step-test.true c.loop-step.invariant.takes c.in-Some.ensures.some c.in_ok-rest.ensures.some;
      draft = continues-join _ _ _ c.loop-step.invariant.draft
          (continues-join _ _ _ (mark-goes_on _ _ _ _ _ c.in-Some.ensures.some) goes_on.0);
      needs = needs-join _ _ _ c.loop-step.invariant.needs goes_on.1;
    }

pub returns-clause-some : goal.returns-clause-some
returns-clause-some c =
    subst (λ (xs : List Step). TakesSteps c.args.schema.now more_tokens with_commas xs c.args.bytes.now c.loop-step.rest.now
    c.args.taken.now c.loop-step.taken)
    (take_all c.loop-step.step-index c.args.steps.now (omega (arith, c.loop-step-test.false))) c.loop-step.invariant.takes
