use Rattle.std.proofs.Common.{◌≡◌, ◌-◌, ℕ, refl, subst, arith}
use Rattle.p21_spec_exchange.specs.Parameter.{more_tokens}
use Rattle.p21_express_graph.specs.Lookups.{places_from}
use Rattle.p21_express_graph.specs.Orders.{numbers}
use Rattle.p21_spec_file.specs.ValueText.{with_commas}
use Rattle.p21_shorter_tokens.proofs.Parts.{stays-behind}
use Rattle.p21_shorter_instances.proofs.Leaving.{err-from}
use Rattle.p21_shorter_instances.proofs.Joining.{at-goes_on, own-next}
use Rattle.p21_shorter_instances.proofs.Stepping.{mark-goes_on, needs-join, none-places}
use Rattle.p21_shorter_instances.specs.TakenParameters.{TakesPlaces}
use Rattle.p21_shorter_instances.proofs.Values.{needs-same}
use Rattle.p21_shorter_instances.proofs.own_parameters.append_further_parameters.Goals as goal
use Rattle.p21_values.proofs.Continuing.{continues-same, continues-join}

pub loop-index-init : goal.loop-index-init
loop-index-init c = record {
  some = omega arith;
  takes = none-places c.args.schema.now (numbers c.args.set.now) more_tokens with_commas (places_from c.args.owner.entity.0 1 0)
      c.args.bytes.now c.args.taken.now refl refl refl;
  draft = continues-same _ _ refl;
  needs = needs-same _ _ refl;
}

pub append_parameter_at-requires-clause-place : goal.append_parameter_at-requires-clause-place
append_parameter_at-requires-clause-place c = omega (arith, c.loop-index-test.true, c.requires.count)

pub returns-in_default-clause-draft : goal.returns-in_default-clause-draft
returns-in_default-clause-draft c = stays-behind _ _ _ c.loop-index.invariant.draft c.in_default.ensures.none

pub returns-in_default-clause-needs : goal.returns-in_default-clause-needs
returns-in_default-clause-needs c = c.loop-index.invariant.needs

pub returns-in_err-rest-clause-draft : goal.returns-in_err-rest-clause-draft
returns-in_err-rest-clause-draft c =
    err-from _ (continues-join _ _ _ c.loop-index.invariant.draft
    (continues-join _ _ _ (mark-goes_on _ _ _ _ _ c.in-Some.ensures.some) c.in_err-rest.ensures.draft))

pub returns-in_err-rest-clause-needs : goal.returns-in_err-rest-clause-needs
returns-in_err-rest-clause-needs c = err-from _ (needs-join _ _ _ c.loop-index.invariant.needs c.in_err-rest.ensures.needs)

pub loop-index-preserved : goal.loop-index-preserved
loop-index-preserved c =
    let goes_on = at-goes_on _ _ _ _ _ _ _ c.in_ok-rest.ensures.some in
    let some = c.loop-index.invariant.some in
    record {
      some = omega (arith, some);
      takes = own-next c.args.schema.now (numbers c.args.set.now) c.args.owner.entity.0 c.loop-index.index c.args.bytes.now _ _ _ _
          c.loop-index.taken _ _ some c.loop-index.invariant.takes c.in-Some.ensures.some c.in_ok-rest.ensures.some;
      draft = continues-join _ _ _ c.loop-index.invariant.draft
          (continues-join _ _ _ (mark-goes_on _ _ _ _ _ c.in-Some.ensures.some) goes_on.0);
      needs = needs-join _ _ _ c.loop-index.invariant.needs goes_on.1;
    }

pub returns-clause-some : goal.returns-clause-some
returns-clause-some c =
    let end : c.loop-index.index - 1 ≡ c.args.owner.count - 1 =
    omega (arith, c.loop-index-test.false, c.loop-index.auto.index-end, c.requires.some) in
    subst (λ (k : ℕ). TakesPlaces c.args.schema.now (numbers c.args.set.now) more_tokens with_commas (places_from c.args.owner.entity.0 1 k)
    c.args.bytes.now c.loop-index.rest.now c.args.taken.now c.loop-index.taken) end c.loop-index.invariant.takes
