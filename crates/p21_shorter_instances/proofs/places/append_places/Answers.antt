use Rattle.std.proofs.Common.{refl, subst}
use Rattle.p21_spec_exchange.specs.Parameter.{params_tokens}
use Rattle.p21_spec_file.specs.ValueText.{with_commas_between}
use Rattle.p21_shorter_instances.proofs.Leaving.{err-to, ok-to}
use Rattle.p21_shorter_instances.proofs.Stepping.{first-in, first-steps, needs-join, no-steps, others-in, step-goes_on}
use Rattle.p21_shorter_instances.specs.TakenParameters.{AreStepsIn}
use Rattle.p21_shorter_instances.proofs.places.append_places.Goals as goal
use Rattle.p21_values.proofs.Continuing.{continues-join}

pub returns-in_default-clause-some : goal.returns-in_default-clause-some
returns-in_default-clause-some c =
    no-steps c.args.schema.now params_tokens with_commas_between c.args.steps.now c.args.bytes.now c.args.taken.now refl refl
    c.in_default.ensures.cases

pub append_place-requires : goal.append_place-requires
append_place-requires c = first-in c.args.schema.now c.in-Some.first.now c.in-Some.others.now
    (subst (AreStepsIn c.args.schema.now) c.in-Some.ensures.cases.0 c.requires)

pub append_others-requires : goal.append_others-requires
append_others-requires c = others-in c.args.schema.now c.in-Some.first.now c.in-Some.others.now
    (subst (AreStepsIn c.args.schema.now) c.in-Some.ensures.cases.0 c.requires)

pub returns-clause-some : goal.returns-clause-some
returns-clause-some c =
    ok-to _ (λ rest. first-steps c.args.schema.now c.args.steps.now c.in-Some.first.now c.in-Some.others.now c.args.bytes.now _ rest.now _ _
    _ c.in-Some.ensures.cases.0 c.in_ok-rest.ensures.some) c.append_others.ensures.some

pub returns-clause-draft : goal.returns-clause-draft
returns-clause-draft c =
    let goes_on =
    step-goes_on _ _ _ _ _ _ (first-in c.args.schema.now c.in-Some.first.now c.in-Some.others.now
    (subst (AreStepsIn c.args.schema.now) c.in-Some.ensures.cases.0 c.requires)) c.in_ok-rest.ensures.some in
    err-to _ (continues-join _ _ _ goes_on.0) c.append_others.ensures.draft

pub returns-clause-needs : goal.returns-clause-needs
returns-clause-needs c =
    let goes_on =
    step-goes_on _ _ _ _ _ _ (first-in c.args.schema.now c.in-Some.first.now c.in-Some.others.now
    (subst (AreStepsIn c.args.schema.now) c.in-Some.ensures.cases.0 c.requires)) c.in_ok-rest.ensures.some in
    err-to _ (needs-join _ _ _ goes_on.1) c.append_others.ensures.needs
