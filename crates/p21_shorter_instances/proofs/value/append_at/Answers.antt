use Rattle.p21_shorter_instances.proofs.Leaving.{err-none, ok-some}
use Rattle.p21_shorter_instances.proofs.Values.{needs-kept, star-at}
use Rattle.p21_shorter_instances.proofs.value.append_at.Goals as goal
use Rattle.p21_values.proofs.Continuing.{continues-same}

pub returns-in-Derived-clause-some : goal.returns-in-Derived-clause-some
returns-in-Derived-clause-some c = rw c.in-Derived.is
    (rw c.ok_or.ensures.value (ok-some _ _ (λ rest. star-at c.args.schema.now c.args.bytes.now rest.now c.args.taken.now _)
    c.append_delimiter.ensures.some))

pub returns-in-Derived-clause-draft : goal.returns-in-Derived-clause-draft
returns-in-Derived-clause-draft c = rw c.ok_or.ensures.value (err-none _ _ (continues-same _ _) c.append_delimiter.ensures.none)

pub returns-in-Derived-clause-needs : goal.returns-in-Derived-clause-needs
returns-in-Derived-clause-needs c = needs-kept c.ok_or.result c.args.taken.now.needs.items
