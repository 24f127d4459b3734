use Rattle.p21_express_graph.specs.Orders.{numbers}
use Rattle.p21_grammar_tree.specs.View.{part_views}
use Rattle.p21_mapping.proofs.Shapes.{named-entities}
use Rattle.p21_mapping.proofs.refused_shape.note_complex.Goals as goal

pub note_other_count-requires : goal.note_other_count-requires
note_other_count-requires c = rw c.deref.ensures.value
    (named-entities c.args.schema.now (part_views c.args.parts.now) (numbers c.in-Ok.listed.items) c.in-Ok.ensures)

pub refused_part-requires : goal.refused_part-requires
refused_part-requires c = rw c.deref-2.ensures.value
    (named-entities c.args.schema.now (part_views c.args.parts.now) (numbers c.in-Ok.listed.items) c.in-Ok.ensures)
