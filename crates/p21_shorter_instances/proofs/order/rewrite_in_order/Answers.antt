use Rattle.p21_shorter_instances.proofs.ArrangedElements.{front-stays}
use Rattle.p21_shorter_instances.proofs.order.rewrite_in_order.Goals as goal

pub returns-in_default-clause-none : goal.returns-in_default-clause-none
returns-in_default-clause-none c = front-stays c.args.start c.args.draft.now
