use Rattle.std.proofs.Common.{subst, sym}
use Rattle.p21_canon.proofs.FoundRows.{continues-later, on_err, row-known, row-next, row-spelled, row-still}
use Rattle.p21_express_graph.proofs.Gatherings.{numbered-at}
use Rattle.p21_express_graph.specs.declared.number.EntityId.{EntityId}
use Rattle.p21_mapping_values.specs.KnownTypes.{HaveKnownTypes}
use Rattle.p21_mapping_values.specs.TypedView.{ids_view, rows_view, typed_view}
use Rattle.p21_mapping_values.specs.View.{views}
use Rattle.p21_canon.proofs.parts.append_rows.Goals as goal

pub row-values-requires-clause-member : goal.row-values-requires-clause-member
row-values-requires-clause-member c = c.requires.members _
    (numbered-at (λ (e : EntityId). e.0) c.args.entities.now c.loop-entity.entity-index (record { 0 = 0 }) c.loop-entity-test.true)

pub append_values-requires : goal.append_values-requires
append_values-requires c = subst (HaveKnownTypes c.args.schema.now) (sym c.row-values.ensures)
    (row-known c.args.schema.now (typed_view c.args.typed.now) (ids_view c.args.typed.now.parts) (rows_view c.args.typed.now.values) _
    c.requires.rows.known)

pub returns-in_err-first-clause-err : goal.returns-in_err-first-clause-err
returns-in_err-first-clause-err c = on_err _ _ (continues-later _ _ _ _ c.loop-entity.invariant.text c.in_err-first.ensures.err)

pub loop-entity-preserved : goal.loop-entity-preserved
loop-entity-preserved c =
    let m = typed_view c.args.typed.now in
    let vs = views c.row-values.result.now in
    let xs = c.args.entities.now in
    let s = c.args.schema.now in record {
      text = row-next s m xs c.loop-entity.entity-index (record { 0 = 0 }) vs c.loop-entity.first c.args.out.now.items
          c.loop-entity.out.items c.append_values.new.out.items c.loop-entity-test.true c.row-values.ensures c.loop-entity.invariant.text
          c.loop-entity.invariant.still c.in_ok-first.ensures.ok;
      still = row-still s m xs c.loop-entity.entity-index (record { 0 = 0 }) vs c.loop-entity.first c.in_ok-first.first
          c.loop-entity-test.true c.row-values.ensures c.loop-entity.invariant.still c.in_ok-first.ensures.still;
      spelled = row-spelled s m xs c.loop-entity.entity-index (record { 0 = 0 }) vs c.loop-entity-test.true c.row-values.ensures
          c.loop-entity.invariant.spelled c.in_ok-first.ensures.spelled;
    }
