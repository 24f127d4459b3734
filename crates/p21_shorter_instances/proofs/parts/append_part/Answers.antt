use Rattle.p21_express_graph.specs.Orders.{numbers}
use Rattle.p21_shorter_tokens.proofs.Parts.{stays-behind}
use Rattle.p21_shorter_instances.proofs.Leaving.{err-from, err-none, ok-some}
use Rattle.p21_shorter_instances.proofs.Joining.{one-part, places-go_on}
use Rattle.p21_shorter_instances.proofs.Stepping.{entity-goes_on, mark-goes_on}
use Rattle.p21_shorter_instances.proofs.parts.append_part.Goals as goal
use Rattle.p21_values.proofs.Continuing.{continues-join}

pub returns-clause-some : goal.returns-clause-some
returns-clause-some c =
    rw c.ok_or.ensures.value (ok-some _ _ (λ rest. one-part c.args.schema.now (numbers c.args.set.now) c.args.owner.0 c.args.bytes.now _ _ _
    rest.now c.args.taken.now _ _ _ _ c.in-Some.ensures.some c.in-Some-append_delimiter.ensures.some c.in_ok-behind.ensures.some)
    c.append_delimiter-2.ensures.some)

pub returns-in_default-append_delimiter-clause-draft : goal.returns-in_default-append_delimiter-clause-draft
returns-in_default-append_delimiter-clause-draft c =
    stays-behind _ _ _ (entity-goes_on c.args.schema.now c.args.owner.0 _ _ _ _ c.in-Some.ensures.some)
    c.in_default-append_delimiter.ensures.none

pub returns-in_err-behind-clause-draft : goal.returns-in_err-behind-clause-draft
returns-in_err-behind-clause-draft c =
    let keyed = continues-join _ _ _ (entity-goes_on c.args.schema.now c.args.owner.0 _ _ _ _ c.in-Some.ensures.some)
    (mark-goes_on _ _ _ _ _ c.in-Some-append_delimiter.ensures.some) in
    err-from _ (continues-join _ _ _ keyed c.in_err-behind.ensures.draft)

pub returns-clause-draft : goal.returns-clause-draft
returns-clause-draft c =
    let keyed = continues-join _ _ _ (entity-goes_on c.args.schema.now c.args.owner.0 _ _ _ _ c.in-Some.ensures.some)
    (mark-goes_on _ _ _ _ _ c.in-Some-append_delimiter.ensures.some) in
    let places = places-go_on _ _ _ _ _ _ _ _ _ c.in_ok-behind.ensures.some in
    rw c.ok_or.ensures.value (err-none _ _ (stays-behind _ _ _ (continues-join _ _ _ keyed places.0)) c.append_delimiter-2.ensures.none)

pub returns-clause-needs : goal.returns-clause-needs
returns-clause-needs c = err-from _ (places-go_on _ _ _ _ _ _ _ _ _ c.in_ok-behind.ensures.some).1
