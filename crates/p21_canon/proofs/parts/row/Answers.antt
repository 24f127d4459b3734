use Rattle.std.proofs.Common.{List, Contains, ap, get_or, nat_eq, subst, sym, ◌∙◌}
use Rattle.std.specs.List.{IsDistinct}
use Rattle.p21_express_graph.specs.Lookups.{AreEntities}
use Rattle.p21_canon.proofs.FoundRows.{row-found, row-low}
use Rattle.p21_canon.specs.StatementTexts.{IsFirstAt}
use Rattle.p21_express_graph.specs.Orders.{numbers}
use Rattle.p21_express_graph.specs.declared.number.EntityId.{EntityId}
use Rattle.p21_mapping_values.specs.declared.value.Values.{Values}
use Rattle.p21_mapping_values.specs.View.{views}
use Rattle.p21_canon.proofs.parts.row.Goals as goal

pub position_of-at-requires-clause-entities : goal.position_of-at-requires-clause-entities
position_of-at-requires-clause-entities c = subst (λ (xs : List EntityId). AreEntities c.args.schema.now (numbers xs)) (sym c.items.ensures)
    c.requires.entities

pub position_of-at-requires-clause-distinct : goal.position_of-at-requires-clause-distinct
position_of-at-requires-clause-distinct c = subst (λ (xs : List EntityId). IsDistinct nat_eq (numbers xs)) (sym c.items.ensures)
    c.requires.distinct

pub position_of-at-requires-clause-member : goal.position_of-at-requires-clause-member
position_of-at-requires-clause-member c = subst (λ (xs : List EntityId). Contains (numbers xs) c.args.entity.0) (sym c.items.ensures)
    c.requires.member

pub returns : goal.returns
returns c =
    let parts = c.args.typed.now.parts in
    let rows = c.args.typed.now.values in
    let first = subst (λ (xs : List EntityId). IsFirstAt (numbers xs) c.args.entity.0 c.position_of-at.result) c.items.ensures
    c.position_of-at.ensures in
    let is = c.index-items-at.is ∙ ap (λ (xs : List Values). get_or xs c.position_of-at.result c.index-items-at.result) c.items-2.ensures in
    ap views c.items-3.ensures ∙ row-found parts rows c.args.entity.0 c.position_of-at.result c.index-items-at.result first
    (row-low parts rows c.args.entity.0 c.position_of-at.result first c.requires.long) is
