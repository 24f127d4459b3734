use Rattle.std.proofs.Common.{List, subst, sym}
use Rattle.p21_express_graph.specs.Lookups.{AreEntities}
use Rattle.p21_express_graph.specs.Orders.{numbers}
use Rattle.p21_express_graph.proofs.Lookups.{known-more}
use Rattle.p21_express_graph.specs.declared.number.EntityId.{EntityId}
use Rattle.p21_shorter_instances.proofs.ahead.list_ahead.Goals as goal

pub loop-entity-preserved : goal.loop-entity-preserved
loop-entity-preserved c =
    subst (λ (es : List EntityId). AreEntities c.args.schema.now (numbers es)) (sym c.in_ok-push.ensures.items)
    (known-more c.args.schema.now c.loop-entity.listed.items c.in-Some.entity c.loop-entity.invariant c.in-Some.ensures.entity)

pub returns-in_err-push : goal.returns-in_err-push
returns-in_err-push c = subst (λ (es : List EntityId). AreEntities c.args.schema.now (numbers es)) (sym c.in_err-push.ensures.items)
    c.loop-entity.invariant
