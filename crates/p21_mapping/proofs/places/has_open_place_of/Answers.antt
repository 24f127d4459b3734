use Rattle.std.specs.Prelude.{◌≡◌, true, false}
use Rattle.std.proofs.Common.{arith, sym, ◌∙◌, subst}
use Rattle.p21_express_graph.proofs.Lookups.{up-to}
use Rattle.p21_express_graph.specs.Meaning.{place_type}
use Rattle.p21_spec_schema.specs.PlaceType.{TypeAt, two_redeclarations}
use Rattle.p21_mapping.proofs.Redeclaring.{only-open}
use Rattle.p21_mapping.proofs.Shapes.{own-each}
use Rattle.p21_mapping.proofs.places.has_open_place_of.Goals as goal
use Rattle.p21_spec_schema.proofs.OwnPlaces.{own_places-has}

pub returns-then-is_open : goal.returns-then-is_open
returns-then-is_open c = (
  record { entity = c.args.entity.0; index = c.loop-index.index },
  own_places-has c.args.schema.now c.args.entity.0 c.loop-index.index
      (omega (arith, c.loop-index-test.true, c.attribute_count-index-end.ensures)),
  subst (TypeAt c.args.schema.now c.args.set.now (record { entity = c.args.entity.0; index = c.loop-index.index }))
      (c.is_open.ensures.0 c.if-is_open.true) c.in_ok-at.ensures,
)

pub loop-index-preserved : goal.loop-index-preserved
loop-index-preserved c = up-to (λ k. TypeAt c.args.schema.now c.args.set.now (record { entity = c.args.entity.0; index = k })
    two_redeclarations → ⊥) c.loop-index.index c.loop-index.invariant
    (λ two. let t : true ≡ false = sym (c.is_open.ensures.1
    (only-open c.args.schema.now c.args.set.now (record { entity = c.args.entity.0; index = c.loop-index.index })
    (place_type c.in_ok-at.at) c.in_ok-at.ensures two)) ∙ c.if-is_open.false in cc)

pub returns : goal.returns
returns c = own-each c.args.schema.now (λ place. ¬ TypeAt c.args.schema.now c.args.set.now place two_redeclarations) c.args.entity.0
    (λ i below. c.loop-index.invariant i (omega (arith, below, c.loop-index-test.false, c.attribute_count-index-end.ensures)))
