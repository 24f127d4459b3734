use Rattle.std.proofs.Common.{None, Some, refl}
use Rattle.p21_c.proofs.Modelled.{type-told}
use Rattle.p21_express_graph.specs.Meaning.{place as place_of, place_type}
use Rattle.p21_c.proofs.model_schema.p21_attribute_type.Goals as goal

pub returns-in_default-type_of_place : goal.returns-in_default-type_of_place
returns-in_default-type_of_place c =
    type-told _ c.in-Some.schema.now c.args.of c.in-Some-entity_of.of.0 c.args.depth 1 (place_of c.in-Some-place_in.place) _
    (place_type c.own_type.result) None _ _ c.in-Some.ensures c.in-Some-entity_of.ensures.0 c.in-Some-place_in.ensures.0
    c.own_type.ensures c.in_default-type_of_place.ensures (refl, refl)

pub returns : goal.returns
returns c =
    type-told _ c.in-Some.schema.now c.args.of c.in-Some-entity_of.of.0 c.args.depth 0 (place_of c.in-Some-place_in.place) _
    (place_type c.own_type.result) (Some c.in-Some-type_of_place.told) _ _ c.in-Some.ensures c.in-Some-entity_of.ensures.0
    c.in-Some-place_in.ensures.0 c.own_type.ensures c.in-Some-type_of_place.ensures (refl, refl)
