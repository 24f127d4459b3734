use Rattle.std.specs.Prelude.{List}
use Rattle.std.proofs.Common.{subst, sym}
use Rattle.p21_express_graph.specs.Lookups.{AreEntities}
use Rattle.p21_express_graph.specs.Orders.{numbers}
use Rattle.p21_express_graph.proofs.Lookups.{known-more}
use Rattle.p21_express_graph.specs.declared.number.EntityId.{EntityId}
use Rattle.p21_test_express.proofs.lookups.entities_named.Goals as goal

pub loop-name-preserved : goal.loop-name-preserved
loop-name-preserved c =
    let P : List EntityId → Type 0 = λ es. AreEntities c.args.schema.now (numbers es) in
    subst P (sym c.in_ok-push-in-Some-entity_named.ensures.items) (known-more c.args.schema.now c.loop-name.entities.items c.in-Some-entity_named.entity c.loop-name.invariant c.in-Some-entity_named.ensures)
