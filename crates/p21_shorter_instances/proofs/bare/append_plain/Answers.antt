use Rattle.p21_spec_basics.proofs.Members.{rest_is}
use Rattle.p21_shorter_instances.proofs.Leaving.{ok-some}
use Rattle.p21_shorter_instances.proofs.Values.{entity-at, rest-taken, scalar-at}
use Rattle.p21_shorter_instances.proofs.bare.append_plain.Goals as goal

pub returns-in_ok-count-in-Entity-clause-some : goal.returns-in_ok-count-in-Entity-clause-some
returns-in_ok-count-in-Entity-clause-some c = λ s.
    rest-taken s _ 0 c.args.bytes.now _ c.in_ok-count-in-Entity.count _ _ (rest_is c.args.bytes.now c.in_ok-count-in-Entity.count)
    (entity-at c.args.of.now _ c.args.bytes.now _ _ _ c.in-Entity.is c.in_ok-count-in-Entity.ensures.some.1 s)

pub returns-in_default-clause-some : goal.returns-in_default-clause-some
returns-in_default-clause-some c = rw c.ok_or.ensures.value
    (ok-some _ _ (λ rest. scalar-at c.args.of.now c.args.bytes.now rest.now c.args.taken.now _) c.append_scalar.ensures.some)
