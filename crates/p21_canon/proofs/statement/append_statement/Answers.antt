use Rattle.std.proofs.Common.{List, subst, sym}
use Rattle.p21_canon.proofs.FoundRows.{continues-behind, meant-closed, meant-rows, on_err, on_err_more}
use Rattle.p21_canon.proofs.Statements.{external-appends, internal-appends}
use Rattle.p21_canon.specs.StatementTexts.{IsClosedSet, IsClosureOf}
use Rattle.p21_express_graph.specs.Lookups.{AreEntities}
use Rattle.p21_express_graph.specs.Orders.{numbers}
use Rattle.p21_express_graph.specs.declared.number.EntityId.{EntityId}
use Rattle.p21_spec_file.specs.CanonicalRecord.{HasOneLeaf}
use Rattle.p21_mapping_values.specs.TypedView.{typed_view}
use Rattle.p21_canon.proofs.statement.append_statement.Goals as goal
use Rattle.p21_values.proofs.Continuing.{continues-same}

pub returns-in_err-write_canonical-clause-err : goal.returns-in_err-write_canonical-clause-err
returns-in_err-write_canonical-clause-err c = on_err _ _ (continues-same _ _ c.in_err-write_canonical.ensures.err)

pub only_leaf-requires-clause-entities : goal.only_leaf-requires-clause-entities
only_leaf-requires-clause-entities c = subst (λ (xs : List EntityId). AreEntities c.args.schema.now (numbers xs)) (sym c.items.ensures)
    (meant-rows c.args.schema.now (typed_view c.args.typed.now) c.requires).entities_are

pub only_leaf-requires-clause-closed : goal.only_leaf-requires-clause-closed
only_leaf-requires-clause-closed c = subst (λ (xs : List EntityId). IsClosedSet c.args.schema.now (numbers xs)) (sym c.items.ensures)
    (meant-closed c.args.schema.now (typed_view c.args.typed.now) c.requires)

pub append_internal-requires-clause-row : goal.append_internal-requires-clause-row
append_internal-requires-clause-row c = meant-rows c.args.schema.now (typed_view c.args.typed.now) c.requires

pub append_internal-requires-clause-closure : goal.append_internal-requires-clause-closure
append_internal-requires-clause-closure c = subst (λ (xs : List EntityId). IsClosureOf c.args.schema.now (numbers xs) c.in-Some.leaf.0)
    c.items.ensures c.in-Some.ensures.1

pub append_external-requires : goal.append_external-requires
append_external-requires c = meant-rows c.args.schema.now (typed_view c.args.typed.now) c.requires

pub returns-in-Some-clause-ok : goal.returns-in-Some-clause-ok
returns-in-Some-clause-ok c =
    let closure = subst (λ (xs : List EntityId). IsClosureOf c.args.schema.now (numbers xs) c.in-Some.leaf.0) c.items.ensures
    c.in-Some.ensures.1 in
    internal-appends c.args.schema.now c.well_formed-2.ensures c.args.name (typed_view c.args.typed.now) c.requires c.in-Some.leaf.0 closure
    c.append_internal.result c.args.out.now.items _ _ _ c.write_canonical.ensures.value c.in_ok-write_canonical.ensures.ok
    c.in_ok-append_byte.ensures.ok
    c.append_internal.ensures.ok c.append_internal.ensures.keyword c.append_internal.ensures.spelled

pub returns-in-Some-clause-err : goal.returns-in-Some-clause-err
returns-in-Some-clause-err c = on_err_more _ _ _ (continues-behind _ _ _ _ _ _ c.in_ok-write_canonical.ensures.ok
    c.in_ok-append_byte.ensures.ok) c.append_internal.ensures.err

pub returns-in-None-clause-ok : goal.returns-in-None-clause-ok
returns-in-None-clause-ok c =
    let none = subst (λ (xs : List EntityId). HasOneLeaf c.args.schema.now (numbers xs) → ⊥) c.items.ensures c.in-None.ensures in
    external-appends c.args.schema.now c.well_formed-2.ensures c.args.name (typed_view c.args.typed.now) c.requires none
    c.append_external.result c.args.out.now.items _ _ _ c.write_canonical.ensures.value c.in_ok-write_canonical.ensures.ok
    c.in_ok-append_byte.ensures.ok
    c.append_external.ensures.ok c.append_external.ensures.spelled

pub returns-in-None-clause-err : goal.returns-in-None-clause-err
returns-in-None-clause-err c = on_err_more _ _ _ (continues-behind _ _ _ _ _ _ c.in_ok-write_canonical.ensures.ok
    c.in_ok-append_byte.ensures.ok) c.append_external.ensures.err
