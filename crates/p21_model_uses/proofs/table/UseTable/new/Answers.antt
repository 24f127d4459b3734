use Rattle.p21_model_uses.proofs.Named.{ordered-fault, ordered-members}
use Rattle.p21_model_uses.proofs.table.UseTable.new.Goals as goal

pub returns-clause-members : goal.returns-clause-members
returns-clause-members c = ordered-members c.of_ordered.result c.deref.result.now c.in_order-ordered.result.items c.args.rows.items
    c.of_ordered.ensures.table c.deref.ensures.value c.in_order-ordered.ensures.members

pub returns-clause-fault : goal.returns-clause-fault
returns-clause-fault c = ordered-fault c.of_ordered.result c.deref.result.now c.in_order-ordered.result.items c.args.rows.items
    c.of_ordered.ensures.fault c.deref.ensures.value c.in_order-ordered.ensures.order c.in_order-ordered.ensures.members
