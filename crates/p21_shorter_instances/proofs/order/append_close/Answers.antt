use Rattle.p21_shorter_instances.proofs.ArrangedElements.{front-stays}
use Rattle.p21_shorter_instances.proofs.order.append_close.Goals as goal

pub returns-in_default-clause-none : goal.returns-in_default-clause-none
returns-in_default-clause-none c = rw c.in_default.ensures.none (front-stays c.args.start c.args.draft.now)
