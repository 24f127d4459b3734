use Rattle.std.proofs.Common.{arith}
use Rattle.p21_express_graph.specs.Orders.{numbers}
use Rattle.p21_shorter_instances.proofs.Leaving.{err-to, ok-to}
use Rattle.p21_shorter_instances.proofs.Joining.{at-goes_on, own-first, own-none}
use Rattle.p21_shorter_instances.proofs.Stepping.{needs-join}
use Rattle.p21_shorter_instances.proofs.own_parameters.append_own_parameters.Goals as goal
use Rattle.p21_values.proofs.Continuing.{continues-join}

pub returns-then-count-eq0-clause-some : goal.returns-then-count-eq0-clause-some
returns-then-count-eq0-clause-some c =
    own-none c.args.schema.now (numbers c.args.set.now) c.args.owner.0 c.attribute_count-count.result c.args.bytes.now c.args.taken.now
    c.attribute_count-count.ensures (omega (arith, c.if-count-eq0.true))

pub append_parameter_at-requires-clause-place : goal.append_parameter_at-requires-clause-place
append_parameter_at-requires-clause-place c = omega (arith, c.if-count-eq0.false, c.attribute_count-count.ensures)

pub append_further_parameters-requires-clause-some : goal.append_further_parameters-requires-clause-some
append_further_parameters-requires-clause-some c = omega (arith, c.if-count-eq0.false)

pub returns-clause-some : goal.returns-clause-some
returns-clause-some c =
    ok-to _ (λ rest. own-first c.args.schema.now (numbers c.args.set.now) c.args.owner.0 c.attribute_count-count.result c.args.bytes.now _
    rest.now _ _ _ c.attribute_count-count.ensures (omega (arith, c.if-count-eq0.false)) c.in_ok-rest.ensures.some)
    c.append_further_parameters.ensures.some

pub returns-clause-draft : goal.returns-clause-draft
returns-clause-draft c = err-to _ (continues-join _ _ _ (at-goes_on _ _ _ _ _ _ _ c.in_ok-rest.ensures.some).0)
    c.append_further_parameters.ensures.draft

pub returns-clause-needs : goal.returns-clause-needs
returns-clause-needs c = err-to _ (needs-join _ _ _ (at-goes_on _ _ _ _ _ _ _ c.in_ok-rest.ensures.some).1)
    c.append_further_parameters.ensures.needs
