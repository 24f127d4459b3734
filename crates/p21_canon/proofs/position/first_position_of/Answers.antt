use Rattle.std.proofs.Common.{arith, rules}
use Rattle.p21_canon.proofs.FoundRows.{first-at}
use Rattle.p21_express_graph.proofs.Lookups.{unnumbered}
use Rattle.p21_express_graph.specs.declared.number.EntityId.{EntityId}
use Rattle.p21_canon.proofs.position.first_position_of.Goals as goal

pub returns-then-entities-i : goal.returns-then-entities-i
returns-then-entities-i c = first-at c.args.entities.now c.loop-i.i c.args.entity.0 (record { 0 = 0 }) c.loop-i-test.true (search rules)
    c.loop-i.invariant

pub unreachable-requires : goal.unreachable-requires
unreachable-requires c = unnumbered (λ (e : EntityId). e.0) (record { 0 = 0 }) c.args.entities.now c.args.entity.0
    (λ k low. c.loop-i.invariant k (omega (arith, low, c.loop-i-test.false))) c.requires
