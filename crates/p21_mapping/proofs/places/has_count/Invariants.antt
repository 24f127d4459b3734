use Rattle.std.proofs.Common.{◌≡◌, ◌+◌, length, take}
use Rattle.std.specs.List.{flat_map}
use Rattle.p21_express_graph.specs.Orders.{numbers}
use Rattle.p21_spec_schema.specs.Order.{own_places}
use Rattle.p21_mapping.proofs.places.has_count.Given as goal

abbrev pub invariant-loop-owner : goal.invariant-loop-owner
invariant-loop-owner l = l.rest + length (flat_map (own_places l.schema) (numbers (take l.owner-index l.listed))) ≡ l.params
