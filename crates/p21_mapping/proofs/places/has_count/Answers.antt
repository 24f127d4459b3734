use Rattle.std.specs.Prelude.{◌≡◌, ◌+◌, true, false}
use Rattle.std.proofs.Common.{arith, get_or}
use Rattle.p21_express_graph.proofs.Gatherings.{numbered-at}
use Rattle.p21_spec_schema.specs.Order.{own_places}
use Rattle.p21_mapping.proofs.GrownLists.{flat_map-more, flat_map-front}
use Rattle.p21_mapping.proofs.Shapes.{own-count}
use Rattle.p21_mapping.proofs.places.has_count.Goals as goal

pub attribute_count-own-requires : goal.attribute_count-own-requires
attribute_count-own-requires c = c.requires _ (numbered-at (λ e. e.0) c.args.listed.now c.loop-owner.owner-index record { 0 = 0 }
    c.loop-owner-test.true)

pub returns-then-rest-own : goal.returns-then-rest-own
returns-then-rest-own c =
    let more = flat_map-more (λ e. e.0) (own_places c.args.schema.now) c.args.listed.now c.loop-owner.owner-index record { 0 = 0 }
    c.loop-owner-test.true in
    let front = flat_map-front (λ e. e.0) (own_places c.args.schema.now) c.args.listed.now (c.loop-owner.owner-index + 1) in
    let own = own-count c.args.schema.now (get_or c.args.listed.now c.loop-owner.owner-index record { 0 = 0 }).0 in (
      λ no. let t : false ≡ true = no in cc,
      λ is. absurd
          (omega (arith, more, front, own, c.attribute_count-own.ensures, c.loop-owner.invariant, c.if-rest-own.true, is)),
    )

pub loop-owner-preserved : goal.loop-owner-preserved
loop-owner-preserved c =
    let more = flat_map-more (λ e. e.0) (own_places c.args.schema.now) c.args.listed.now c.loop-owner.owner-index record { 0 = 0 }
    c.loop-owner-test.true in
    let own = own-count c.args.schema.now (get_or c.args.listed.now c.loop-owner.owner-index record { 0 = 0 }).0 in
    omega (arith, more, own, c.attribute_count-own.ensures, c.loop-owner.invariant, c.if-rest-own.false)
