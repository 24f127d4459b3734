use Rattle.std.proofs.Common.{◌≡◌, map, take}
use Rattle.std.specs.List.{flat_map}
use Rattle.p21_express_graph.specs.Meaning.{place}
use Rattle.p21_spec_schema.specs.Order.{own_places}
use Rattle.p21_express_graph.specs.Orders.{numbers}
use Rattle.p21_schema.proofs.schema.Schema.places.Given as goal

abbrev pub invariant-loop-owner : goal.invariant-loop-owner
invariant-loop-owner l = map place l.found.items ≡ flat_map (own_places l.self) (numbers (take l.owner-index l.owner-items))
