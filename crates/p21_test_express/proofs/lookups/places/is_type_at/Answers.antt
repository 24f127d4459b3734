use Rattle.std.specs.Prelude.{List}
use Rattle.std.proofs.Common.{subst, sym}
use Rattle.p21_express_graph.specs.Lookups.{AreEntities}
use Rattle.p21_express_graph.specs.Orders.{numbers}
use Rattle.p21_express_graph.specs.declared.number.EntityId.{EntityId}
use Rattle.p21_test_express.proofs.lookups.places.is_type_at.Goals as goal

pub has_type-requires-clause-entities : goal.has_type-requires-clause-entities
has_type-requires-clause-entities c =
    let P : List EntityId → Type 0 = λ es. AreEntities c.args.schema.now (numbers es) in
    subst P (sym c.deref.ensures.value) c.in-Ok.ensures
