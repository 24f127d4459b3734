use Rattle.std.proofs.Common.{arith}
use Rattle.p21_spec_basics.proofs.Members.{rest_is}
use Rattle.p21_shorter_instances.proofs.Leaving.{err-none, ok-some, ok-to}
use Rattle.p21_shorter_instances.proofs.Joining.{known-at}
use Rattle.p21_shorter_instances.proofs.RealElements.{reals-front, reals-known, reals-taken}
use Rattle.p21_shorter_instances.proofs.Values.{needs-kept, placed-known, placed-taken, rest-taken, star-taken, step-known, step-taken}
use Rattle.p21_shorter_instances.proofs.value.append_value.Goals as goal
use Rattle.p21_values.proofs.Continuing.{continues-same}

pub returns-in-Derived-clause-some : goal.returns-in-Derived-clause-some
returns-in-Derived-clause-some c =
    rw c.ok_or.ensures.value (ok-some _ _ (λ rest. star-taken c.args.schema.now c.args.step.now c.args.bytes.now rest.now c.args.taken.now _
    c.in-Derived.is) c.append_delimiter.ensures.some)

pub returns-in-Derived-clause-draft : goal.returns-in-Derived-clause-draft
returns-in-Derived-clause-draft c = rw c.ok_or.ensures.value (err-none _ _ (continues-same _ _) c.append_delimiter.ensures.none)

pub returns-in-Derived-clause-needs : goal.returns-in-Derived-clause-needs
returns-in-Derived-clause-needs c = needs-kept c.ok_or.result c.args.taken.now.needs.items

pub base_of-base-requires : goal.base_of-base-requires
base_of-base-requires c = step-known c.args.schema.now c.args.step.now _ _ c.in-Stored.is c.requires

pub returns-in-Stored-clause-some : goal.returns-in-Stored-clause-some
returns-in-Stored-clause-some c =
    ok-to _ (λ rest. step-taken c.args.schema.now c.args.step.now _ _ _ c.args.bytes.now rest.now _ _ c.in-Stored.is
    c.base_of-base.ensures.has) c.append_stored.ensures.some

pub append_all_reals-requires : goal.append_all_reals-requires
append_all_reals-requires c = reals-known c.args.schema.now c.args.step.now _ c.in-Reals.is c.requires

pub slice_bounds-result-count : goal.slice_bounds-result-count
slice_bounds-result-count c =
    (reals-front c.args.schema.now c.well_formed-in-Reals.ensures.types_distinct c.args.step.now _ c.args.bytes.now c.in-Some.count
    c.args.taken.now _ c.in-Reals.is c.requires c.in-Some.ensures.some).0

pub slice_bounds-result-start : goal.slice_bounds-result-start
slice_bounds-result-start c =
    let within =
    (reals-front c.args.schema.now c.well_formed-in-Reals.ensures.types_distinct c.args.step.now _ c.args.bytes.now c.in-Some.count
    c.args.taken.now _ c.in-Reals.is c.requires c.in-Some.ensures.some).0 in
    omega (arith, within)

pub returns-in-Some-clause-some : goal.returns-in-Some-clause-some
returns-in-Some-clause-some c =
    reals-taken c.args.schema.now c.well_formed-in-Reals.ensures.types_distinct c.args.step.now _ c.args.bytes.now c.in-Some.count _
    c.args.taken.now _
    c.in-Reals.is (rest_is c.args.bytes.now c.in-Some.count) c.in-Some.ensures.some

pub own_type-at-requires-clause-entity : goal.own_type-at-requires-clause-entity
own_type-at-requires-clause-entity c = (placed-known c.args.schema.now c.args.step.now _ _ c.in-Placed.is c.requires).0

pub own_type-at-requires-clause-place : goal.own_type-at-requires-clause-place
own_type-at-requires-clause-place c = (placed-known c.args.schema.now c.args.step.now _ _ c.in-Placed.is c.requires).1

pub append_placed-requires : goal.append_placed-requires
append_placed-requires c = known-at c.args.schema.now c.holds_together.ensures _ _ _ c.own_type-at.ensures

pub returns-in_ok-count-in-Placed-clause-some : goal.returns-in_ok-count-in-Placed-clause-some
returns-in_ok-count-in-Placed-clause-some c =
    placed-taken c.args.schema.now c.holds_together.ensures c.args.step.now _ _ _ c.args.bytes.now _ _ _ c.in-Placed.is
    c.own_type-at.ensures
    (rest-taken c.args.schema.now _ 64 c.args.bytes.now _ c.in_ok-count-in-Placed.count _ _
    (rest_is c.args.bytes.now c.in_ok-count-in-Placed.count) c.in_ok-count-in-Placed.ensures.some.1)
