use Rattle.std.proofs.Common.{List, subst, sym}
use Rattle.p21_express_graph.specs.Lookups.{AreEntities}
use Rattle.p21_express_graph.specs.Orders.{numbers}
use Rattle.p21_express_graph.specs.declared.number.EntityId.{EntityId}
use Rattle.p21_canon.proofs.parts.append_external.Goals as goal

pub append_parts-requires-clause-entities : goal.append_parts-requires-clause-entities
append_parts-requires-clause-entities c = subst (λ (xs : List EntityId). AreEntities c.args.schema.now (numbers xs)) (sym c.items.ensures)
    c.requires.entities_are
