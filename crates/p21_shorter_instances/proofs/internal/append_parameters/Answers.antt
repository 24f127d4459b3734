use Rattle.std.proofs.Common.{List, ap, map, subst, sym}
use Rattle.p21_express_graph.specs.Orders.{numbers}
use Rattle.p21_express_graph.specs.Rising.{IsOwnRising}
use Rattle.p21_express_graph.specs.declared.number.EntityId.{EntityId}
use Rattle.p21_shorter_instances.proofs.Stepping.{parameters-taken, row-in}
use Rattle.p21_shorter_instances.specs.Steps.{row_view, step_view}
use Rattle.p21_shorter_instances.proofs.internal.append_parameters.Goals as goal

pub append_places-requires : goal.append_places-requires
append_places-requires c =
    let s = c.args.schema.now in
    row-in s c.args.entity.0 (row_view c.in-Some.row.now) c.deref.result.now (ap (map step_view) c.deref.ensures.value)
    (c.in-Some.ensures s c.requires)

pub returns-clause-some : goal.returns-clause-some
returns-clause-some c =
    let s = c.args.schema.now in
    parameters-taken s c.args.entity.0 (row_view c.in-Some.row.now) c.deref.result.now c.args.bytes.now _ c.in-Some-append_end.rest.now
    _ _ _ (c.in-Some.ensures s c.requires) (ap (map step_view) c.deref.ensures.value) c.in_ok-behind.ensures.some
    c.in-Some-append_end.ensures.some

pub returns-clause-entities : goal.returns-clause-entities
returns-clause-entities c =
    let s = c.args.schema.now in
    subst (λ (es : List EntityId). IsOwnRising s c.args.entity.0 (numbers es)) (sym c.deref-2.ensures.value)
    (c.in-Some.ensures s c.requires).entities_are
