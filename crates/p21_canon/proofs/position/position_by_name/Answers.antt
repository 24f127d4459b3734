use Rattle.std.proofs.Common.{arith}
use Rattle.p21_express_graph.proofs.Gatherings.{numbered-at}
use Rattle.p21_express_graph.specs.declared.number.EntityId.{EntityId}
use Rattle.p21_canon.proofs.position.position_by_name.Goals as goal

pub entity_name-name-requires : goal.entity_name-name-requires
entity_name-name-requires c = c.requires.entities _ c.requires.member

pub entity_name-requires : goal.entity_name-requires
entity_name-requires c = c.requires.entities _ (numbered-at (λ (e : EntityId). e.0) c.args.entities.now _ (record { 0 = 0 })
    (omega (arith, c.loop-low-test.true, c.loop-low.invariant.1)))
