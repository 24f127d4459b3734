use Rattle.std.proofs.Common.{arith, subst, ◌<◌, length, List}
use Rattle.p21_express_graph.proofs.Pairs.{AllZip-more}
use Rattle.p21_express_graph.specs.Meaning.{place, place_type}
use Rattle.p21_mapping.proofs.GrownLists.{numbered-is}
use Rattle.p21_mapping.proofs.OwnRecords.{place-within}
use Rattle.p21_spec_schema.specs.Order.{order}
use Rattle.p21_spec_schema.specs.PlaceType.{TypeAt}
use Rattle.p21_spec_schema.specs.Schema.{Place}
use Rattle.std.specs.Prelude.{Contains}
use Rattle.p21_mapping.proofs.known.own_types.Goals as goal

pub own_type-requires-clause-place : goal.own_type-requires-clause-place
own_type-requires-clause-place c =
    let below : c.loop-index.index < length c.in_ok-places.places.items =
    omega (arith, c.loop-index-test.true, c.len-index-end.ensures, c.in_ok-places.places.ok.0) in
    place-within c.args.schema.now c.args.entity.0 (place c.index.result.now)
    (subst (λ (ps : List Place). Contains ps (place c.index.result.now)) c.in_ok-places.ensures
    (numbered-is place c.in_ok-places.places.items c.loop-index.index c.index.result.now below c.index.ensures))

pub loop-index-preserved : goal.loop-index-preserved
loop-index-preserved c =
    let below : c.loop-index.index < length c.in_ok-places.places.items =
    omega (arith, c.loop-index-test.true, c.len-index-end.ensures, c.in_ok-places.places.ok.0) in
    AllZip-more (TypeAt c.args.schema.now (order c.args.schema.now c.args.entity.0)) place place_type c.in_ok-places.places.items
    c.loop-index.index c.index.result.now c.loop-index.types.items c.push.new.self.items c.own_type.result below
    c.in_ok-push.ensures.items c.loop-index.invariant
    (subst (λ p. TypeAt c.args.schema.now (order c.args.schema.now c.args.entity.0) (place p) (place_type c.own_type.result))
    c.index.ensures c.own_type.ensures)
