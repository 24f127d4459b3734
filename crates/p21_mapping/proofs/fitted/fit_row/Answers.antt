use Rattle.std.specs.Prelude.{[], ◌∷◌, map, reverse}
use Rattle.std.proofs.Common.{arith, ap, ◌∙◌}
use Rattle.std.proofs.lemmas.List.{length-reverse, map-append}
use Rattle.p21_spec_basics.proofs.Members.{Each-member}
use Rattle.p21_grammar_tree.specs.View.{view as tree}
use Rattle.p21_mapping.proofs.Here.{row-room}
use Rattle.p21_mapping.proofs.Lists.{next-one}
use Rattle.p21_mapping.proofs.RowLists.{row-begins, row-more, row-ends, row-next}
use Rattle.p21_mapping.specs.Outcome.{needs_view}
use Rattle.p21_mapping.specs.Rows.{param_views}
use Rattle.p21_mapping_values.specs.View.{view}
use Rattle.p21_spec_schema.specs.Order.{own_places}
use Rattle.p21_spec_schema.specs.PlaceType.{TypeAt, two_redeclarations}
use Rattle.p21_mapping.proofs.fitted.fit_row.Goals as goal
use Rattle.p21_spec_schema.proofs.OwnPlaces.{own_places-has}

pub loop-index-init : goal.loop-index-init
loop-index-init c = rw c.in_ok-values.ensures.items
    (row-begins c.args.set.now.schema.now c.args.set.now.entities c.args.owner.0 (param_views (reverse c.args.params.now.items))
    (needs_view c.args.needs.now.items))

pub unreachable-requires : goal.unreachable-requires
unreachable-requires c =
    row-room c.args.set.now.schema.now c.args.set.now.entities c.args.owner.0 c.loop-index.index (reverse c.args.params.now.items)
    (reverse c.loop-index.params.items) (map view c.loop-index.values.items) (needs_view c.args.needs.now.items)
    (needs_view c.loop-index.needs.items) c.loop-index.invariant
    (omega (arith, c.loop-index-test.true, c.attribute_count-count.ensures)) c.requires.enough
    (omega (arith, length-reverse c.loop-index.params.items, c.loop-index.params.ok, c.in_default.ensures.cases.0))

pub fit_here-requires-clause-decided : goal.fit_here-requires-clause-decided
fit_here-requires-clause-decided c =
    Each-member (λ place. ¬ TypeAt c.args.set.now.schema.now c.args.set.now.entities place two_redeclarations)
    (own_places c.args.set.now.schema.now c.args.owner.0) (record { entity = c.args.owner.0; index = c.loop-index.index })
    c.requires.decided
    (own_places-has c.args.set.now.schema.now c.args.owner.0 c.loop-index.index
    (omega (arith, c.loop-index-test.true, c.attribute_count-count.ensures)))

pub returns-in-Err : goal.returns-in-Err
returns-in-Err c = λ other. (
  record { entity = c.args.owner.0; index = c.loop-index.index },
  tree c.in-Some.param,
  row-next c.args.set.now.schema.now c.args.set.now.entities c.args.owner.0 c.loop-index.index
      (param_views (reverse c.args.params.now.items)) (param_views (reverse c.loop-index.params.items))
      (param_views (reverse c.pop.new.self.items)) (map view c.loop-index.values.items)
      (needs_view c.args.needs.now.items) (needs_view c.loop-index.needs.items) (tree c.in-Some.param)
      (omega (arith, c.loop-index-test.true, c.attribute_count-count.ensures)) c.loop-index.invariant
      (ap param_views (next-one _ _ _ c.in-Some.ensures.items)),
  c.in-Err.ensures other,
)

pub loop-index-preserved : goal.loop-index-preserved
loop-index-preserved c =
    row-more c.args.set.now.schema.now c.args.set.now.entities c.args.owner.0 c.loop-index.index
    (param_views (reverse c.args.params.now.items)) (param_views (reverse c.loop-index.params.items))
    (param_views (reverse c.pop.new.self.items)) (map view c.loop-index.values.items) (map view c.push.new.self.items)
    (needs_view c.args.needs.now.items) (needs_view c.loop-index.needs.items) (needs_view c.fit_here.new.needs.items) (tree c.in-Some.param)
    (view c.in-Ok.value) c.loop-index.invariant (ap param_views (next-one _ _ _ c.in-Some.ensures.items))
    (ap (map view) c.in_ok-push-in-Ok.ensures.items ∙ map-append view c.loop-index.values.items (c.in-Ok.value ∷ [])) c.in-Ok.ensures

pub returns : goal.returns
returns c =
    rw c.from_vec.ensures
    (row-ends c.args.set.now.schema.now c.args.set.now.entities c.args.owner.0 c.loop-index.index
    (param_views (reverse c.args.params.now.items)) (param_views (reverse c.loop-index.params.items))
    (map view c.loop-index.values.items) (needs_view c.args.needs.now.items) (needs_view c.loop-index.needs.items)
    (omega (arith, c.loop-index-test.false, c.loop-index.auto.index-end, c.attribute_count-count.ensures)) c.loop-index.invariant)
