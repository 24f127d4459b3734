use Rattle.std.proofs.Common.{map, take}
use Rattle.std.specs.List.{AllZip}
use Rattle.p21_express_graph.specs.Meaning.{place, place_type}
use Rattle.p21_spec_schema.specs.Order.{order}
use Rattle.p21_spec_schema.specs.PlaceType.{TypeAt}
use Rattle.p21_mapping.proofs.known.own_types.Given as goal

-- these may stand at the places so far
abbrev pub invariant-loop-index : goal.invariant-loop-index
invariant-loop-index l = AllZip (TypeAt l.schema (order l.schema l.entity.0)) (map place (take l.index l.places.items))
    (map place_type l.types.items)
