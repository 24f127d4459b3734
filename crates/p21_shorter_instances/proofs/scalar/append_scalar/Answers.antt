use Rattle.p21_spec_basics.proofs.Members.{rest_is}
use Rattle.p21_shorter_instances.proofs.Values.{scalar-value}
use Rattle.p21_shorter_instances.proofs.scalar.append_scalar.Goals as goal

pub returns-clause-some : goal.returns-clause-some
returns-clause-some c = λ s. scalar-value s _ c.args.bytes.now _ c.in_ok-count.count _ _ (rest_is c.args.bytes.now c.in_ok-count.count)
    c.in_ok-count.ensures.some
