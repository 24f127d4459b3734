use Rattle.std.proofs.Common.{arith, get_or}
use Rattle.p21_express_graph.proofs.gathered.GatheredEntities.add_all.Goals as goal
use Rattle.p21_express_graph.proofs.Gatherings.{numbered-at}

pub add-requires : goal.add-requires
add-requires c = let below = c.requires (get_or c.args.entities.now c.loop-entity.entity-index record { 0 = 0 }).0 (numbered-at (λ e. e.0) c.args.entities.now c.loop-entity.entity-index record { 0 = 0 } c.loop-entity-test.true) in omega (arith, below, c.loop-entity.invariant.0)
