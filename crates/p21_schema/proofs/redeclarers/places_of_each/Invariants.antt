use Rattle.std.proofs.Common.{map, take}
use Rattle.p21_express_graph.specs.SchemaContents.{entity}
use Rattle.p21_schema.specs.Redeclarers.{ArePlacesOfEach}
use Rattle.p21_schema.proofs.redeclarers.places_of_each.Given as goal

abbrev pub invariant-loop-entity : goal.invariant-loop-entity
invariant-loop-entity l = ArePlacesOfEach (map entity (take l.entity-index l.entities)) l.of_each.items
