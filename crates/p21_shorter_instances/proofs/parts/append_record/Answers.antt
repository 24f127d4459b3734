use Rattle.p21_express_graph.specs.Orders.{numbers}
use Rattle.p21_shorter_instances.proofs.Leaving.{err-from, err-none, ok-some}
use Rattle.p21_shorter_instances.proofs.Joining.{parts-go_on, record-taken}
use Rattle.p21_shorter_instances.proofs.parts.append_record.Goals as goal
use Rattle.p21_values.proofs.Continuing.{continues-join}

pub returns-clause-some : goal.returns-clause-some
returns-clause-some c =
    rw c.ok_or.ensures.value (ok-some _ _ (λ rest. record-taken c.args.schema.now (numbers c.args.set.now) c.args.bytes.now _ rest.now _ _ _
    c.in_ok-behind.ensures.some) c.append_end.ensures.some)

pub returns-clause-draft : goal.returns-clause-draft
returns-clause-draft c = rw c.ok_or.ensures.value (err-none _ _
    (continues-join _ _ _ (parts-go_on _ _ _ _ _ _ _ c.in_ok-behind.ensures.some).0) c.append_end.ensures.none)

pub returns-clause-needs : goal.returns-clause-needs
returns-clause-needs c = err-from _ (parts-go_on _ _ _ _ _ _ _ c.in_ok-behind.ensures.some).1
