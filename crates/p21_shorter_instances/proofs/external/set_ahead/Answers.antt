use Rattle.std.proofs.Common.{List, subst, sym, ◌∙◌}
use Rattle.p21_express_graph.specs.Lookups.{AreEntities}
use Rattle.p21_express_graph.specs.Orders.{numbers}
use Rattle.p21_express_graph.specs.declared.number.EntityId.{EntityId}
use Rattle.p21_shorter_instances.specs.ExternalSet.{IsExternalSet}
use Rattle.p21_shorter_instances.proofs.external.set_ahead.Goals as goal

pub is_external_set-requires : goal.is_external_set-requires
is_external_set-requires c =
    subst (λ (es : List EntityId). AreEntities c.args.schema.now (numbers es)) (sym (c.as_slice.ensures.value ∙ c.in_ok-set.ensures))
    (rw c.in-Some.is at c.in_ok-found.ensures)

pub returns-in_err-at-clause-sets : goal.returns-in_err-at-clause-sets
returns-in_err-at-clause-sets c =
    c.keep.ensures.kept c.args.schema.now c.requires (subst (λ (es : List EntityId). IsExternalSet c.args.schema.now (numbers es))
    c.as_slice.ensures.value (c.in_ok-usual.ensures c.if-not-usual.false))

pub returns-clause-sets : goal.returns-clause-sets
returns-clause-sets c =
    c.keep.ensures.kept c.args.schema.now c.requires (subst (λ (es : List EntityId). IsExternalSet c.args.schema.now (numbers es))
    c.as_slice.ensures.value (c.in_ok-usual.ensures c.if-not-usual.false))
