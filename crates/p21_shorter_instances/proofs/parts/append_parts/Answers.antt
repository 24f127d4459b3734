use Rattle.std.proofs.Common.{List, arith, refl, subst}
use Rattle.std.proofs.lemmas.List.{take_all}
use Rattle.p21_express_graph.proofs.Gatherings.{numbered-at}
use Rattle.p21_express_graph.specs.Orders.{numbers}
use Rattle.p21_express_graph.specs.declared.number.EntityId.{EntityId}
use Rattle.p21_shorter_instances.proofs.Leaving.{err-from}
use Rattle.p21_shorter_instances.proofs.Joining.{next-part, no-parts, parts-go_on}
use Rattle.p21_shorter_instances.proofs.Stepping.{needs-join}
use Rattle.p21_shorter_instances.specs.Records.{TakesParts}
use Rattle.p21_shorter_instances.proofs.Values.{needs-same}
use Rattle.p21_shorter_instances.proofs.parts.append_parts.Goals as goal
use Rattle.p21_values.proofs.Continuing.{continues-same, continues-join}

pub loop-owner-init : goal.loop-owner-init
loop-owner-init c = record {
  takes = no-parts c.args.schema.now (numbers c.args.set.now) c.args.bytes.now c.args.taken.now;
  draft = continues-same _ _ refl;
  needs = needs-same _ _ refl;
}

pub append_part-requires-clause-owner : goal.append_part-requires-clause-owner
append_part-requires-clause-owner c = c.requires _
    (numbered-at (λ e. e.0) c.args.set.now c.loop-owner.owner-index record { 0 = 0 } c.loop-owner-test.true)

pub returns-in_err-rest-clause-draft : goal.returns-in_err-rest-clause-draft
returns-in_err-rest-clause-draft c = err-from _ (continues-join _ _ _ c.loop-owner.invariant.draft c.in_err-rest.ensures.draft)

pub returns-in_err-rest-clause-needs : goal.returns-in_err-rest-clause-needs
returns-in_err-rest-clause-needs c = err-from _ (needs-join _ _ _ c.loop-owner.invariant.needs c.in_err-rest.ensures.needs)

pub loop-owner-preserved : goal.loop-owner-preserved
loop-owner-preserved c =
    let goes_on = parts-go_on _ _ _ _ _ _ _ c.in_ok-rest.ensures.some in
    record {
      takes = next-part c.args.schema.now (numbers c.args.set.now) c.args.set.now c.loop-owner.owner-index record { 0 = 0 } c.args.bytes.now
          _ _ _ _ _ c.loop-owner-test.true c.loop-owner.invariant.takes c.in_ok-rest.ensures.some;
      draft = continues-join _ _ _ c.loop-owner.invariant.draft goes_on.0;
      needs = needs-join _ _ _ c.loop-owner.invariant.needs goes_on.1;
    }

pub returns-clause-some : goal.returns-clause-some
returns-clause-some c =
    subst (λ (es : List EntityId). TakesParts c.args.schema.now (numbers c.args.set.now) (numbers es) c.args.bytes.now c.loop-owner.rest.now
    c.args.taken.now c.loop-owner.taken)
    (take_all c.loop-owner.owner-index c.args.set.now (omega (arith, c.loop-owner-test.false))) c.loop-owner.invariant.takes
