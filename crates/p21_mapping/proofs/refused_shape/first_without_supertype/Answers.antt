use Rattle.p21_express_graph.proofs.Gatherings.{numbered-at}
use Rattle.p21_mapping.proofs.refused_shape.first_without_supertype.Goals as goal

pub supertypes-requires : goal.supertypes-requires
supertypes-requires c = c.requires _ (numbered-at (λ e. e.0) c.args.listed.now c.loop-entity.entity-index record { 0 = 0 }
    c.loop-entity-test.true)
