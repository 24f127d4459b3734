use Rattle.p21_shorter_instances.proofs.Values.{name-taken}
use Rattle.p21_shorter_instances.proofs.reference.append_reference.Goals as goal

pub returns-clause-some : goal.returns-clause-some
returns-clause-some c = (
  c.in-Some.ensures.some.stands.within,
  λ s type takes. name-taken s type c.args.wanted c.args.bytes.now c.in-Some.count c.in-Some.number
      c.args.taken.now _ c.in-Some.ensures.some c.in-Ok.ensures.items takes,
)
