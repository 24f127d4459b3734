use Rattle.p21_express_graph.specs.Orders.{numbers}
use Rattle.p21_mapping.proofs.Shapes.{leaves-within, leaves-tell}
use Rattle.p21_mapping.proofs.shape.has_abstract_leaf.Goals as goal

pub has_abstract-requires : goal.has_abstract-requires
has_abstract-requires c = rw c.deref.ensures.value
    (leaves-within c.args.schema.now (numbers c.args.entities.now) (numbers c.in_ok-leaves.leaves.items) c.in_ok-leaves.ensures c.requires)

pub returns : goal.returns
returns c = leaves-tell c.args.schema.now (numbers c.args.entities.now) (numbers c.in_ok-leaves.leaves.items) c.has_abstract.result
    c.in_ok-leaves.ensures (rw (← c.deref.ensures.value) c.has_abstract.ensures)
