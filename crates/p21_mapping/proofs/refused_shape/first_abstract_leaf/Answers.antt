use Rattle.p21_express_graph.proofs.Gatherings.{numbered-at}
use Rattle.p21_mapping.proofs.refused_shape.first_abstract_leaf.Goals as goal

pub is_abstract-requires : goal.is_abstract-requires
is_abstract-requires c = c.requires _ (numbered-at (λ e. e.0) c.args.listed.now c.loop-entity.entity-index record { 0 = 0 }
    c.loop-entity-test.true)
